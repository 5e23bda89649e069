-- What a store keeps on an honest disk that began as a database goes on over pins, unpins and reaps.
use Rattle.std.proofs.Common.{ℕ, ◌+◌, not, nat_eq, List, ◌∷◌, IsTrue, refl}
use Rattle.afl_outside.specs.Disk.{Moment}
use Rattle.plan_changes.specs.Databases.{Database}
use Rattle.plan_changes.specs.Stored.{IsDatabase}
use Rattle.event_core.specs.declared.entry.Entry.TheVariants.{Pin, Unpin, Reap}
use Rattle.event_core.specs.Allowed.{is_pinned}
use Rattle.event_core.specs.Cells.{at}
use Rattle.event_core.specs.History.{History, OpenPin, open_pins}
use Rattle.store_versions.specs.declared.row.VersionRow.{VersionRow}
use Rattle.store_versions.specs.Versions.{Directories, versions_at}
use Rattle.store_state.specs.Standings.{IsAttempt, Standing}
use Rattle.store_state.specs.Cells.{IsImage, HoldsCells}
use Rattle.store_state.specs.Inner.Keeping.{Keeping, LieIn}
use Rattle.store_state.proofs.Attempts.{attempt_on, have_stood_on, some_map}
use Rattle.store_state.proofs.Lists.{all_push, all_filter, zip_map}

module _ {D : Type 0} (moment : D → Moment) (s : Standing D) (k : Keeping) (db : Database) (h : History) (given : Directories) (places : List ℕ)
    (x : HoldsCells moment s k db h given places) where
  abbrev Sees : OpenPin → List ℕ → Type 0
  Sees pin image = LieIn image (at db pin.before) (versions_at s.ledger.base given pin.before)

  pub cells_pin : (session : ℕ) → IsTrue (not (is_pinned session h)) → HoldsCells moment s k db (Pin session ∷ h) given places
  cells_pin session free = record {
    legal = (x.legal, free, tt, tt);
    database = x.database;
    pinned = all_push (λ (pin : OpenPin). IsDatabase (at db pin.before)) (open_pins h) (record { session = session; before = h }) x.pinned x.database;
    doubt = some_map (IsAttempt db s.ledger.notes h) (IsAttempt db s.ledger.notes (Pin session ∷ h)) (attempt_on db s.ledger.notes (Pin session) h refl) s.doubt x.doubt;
    bytes = x.bytes;
    known = x.known;
    found = x.found;
    is_found = record { catalog = x.is_found.catalog; directories = x.is_found.directories; catalogue = x.is_found.catalogue; stored = x.is_found.stored };
    images = λ image left.
        let i : IsImage s.ledger.base given db h k.slots s.doubt x.found image = x.images image left in
        record {
          opens = i.opens;
          holds = i.holds;
          now = i.now;
          pinned = all_push (λ (pin : OpenPin). Sees pin image) (open_pins h) (record { session = session; before = h }) i.pinned i.now;
          doubted = i.doubted;
          stands = i.stands;
        };
    past = have_stood_on (Pin session) (moment s.disk) db s.ledger.notes h 0 _ x.past;
    acked = zip_map _ _ (λ place since. have_stood_on (Pin session) (moment s.disk) db s.ledger.notes h (place + 1) since) places s.acked x.acked;
  }

  pub cells_unpin : (session : ℕ) (rows : List VersionRow) → IsTrue (is_pinned session h) → HoldsCells moment s (record k { rows = rows }) db (Unpin session ∷ h) given places
  cells_unpin session rows pinned = record {
    legal = (x.legal, pinned, tt, tt);
    database = x.database;
    pinned = all_filter (λ (pin : OpenPin). IsDatabase (at db pin.before)) (λ pin. not (nat_eq pin.session session)) (open_pins h) x.pinned;
    doubt = some_map (IsAttempt db s.ledger.notes h) (IsAttempt db s.ledger.notes (Unpin session ∷ h)) (attempt_on db s.ledger.notes (Unpin session) h refl) s.doubt x.doubt;
    bytes = x.bytes;
    known = x.known;
    found = x.found;
    is_found = record { catalog = x.is_found.catalog; directories = x.is_found.directories; catalogue = x.is_found.catalogue; stored = x.is_found.stored };
    images = λ image left.
        let i : IsImage s.ledger.base given db h k.slots s.doubt x.found image = x.images image left in
        record {
          opens = i.opens;
          holds = i.holds;
          now = i.now;
          pinned = all_filter (λ (pin : OpenPin). Sees pin image) (λ pin. not (nat_eq pin.session session)) (open_pins h) i.pinned;
          doubted = i.doubted;
          stands = i.stands;
        };
    past = have_stood_on (Unpin session) (moment s.disk) db s.ledger.notes h 0 _ x.past;
    acked = zip_map _ _ (λ place since. have_stood_on (Unpin session) (moment s.disk) db s.ledger.notes h (place + 1) since) places s.acked x.acked;
  }

  pub cells_reap : HoldsCells moment s k db (Reap ∷ h) given places
  cells_reap = record {
    legal = (x.legal, refl, tt, tt);
    database = x.database;
    pinned = x.pinned;
    doubt = some_map (IsAttempt db s.ledger.notes h) (IsAttempt db s.ledger.notes (Reap ∷ h)) (attempt_on db s.ledger.notes Reap h refl) s.doubt x.doubt;
    bytes = x.bytes;
    known = x.known;
    found = x.found;
    is_found = record { catalog = x.is_found.catalog; directories = x.is_found.directories; catalogue = x.is_found.catalogue; stored = x.is_found.stored };
    images = λ image left.
        let i : IsImage s.ledger.base given db h k.slots s.doubt x.found image = x.images image left in
        record { opens = i.opens; holds = i.holds; now = i.now; pinned = i.pinned; doubted = i.doubted; stands = i.stands };
    past = have_stood_on Reap (moment s.disk) db s.ledger.notes h 0 _ x.past;
    acked = zip_map _ _ (λ place since. have_stood_on Reap (moment s.disk) db s.ledger.notes h (place + 1) since) places s.acked x.acked;
  }
