-- What a store keeps on every disk goes on over pins, unpins and reaps.
use Rattle.std.proofs.Common.{◌≡◌, ℕ, Bool, true, false, not, ◌&&◌, ◌||◌, nat_eq, List, ◌∷◌, IsTrue, refl}
use Rattle.std.specs.List.{AllZip, list_all}
use Rattle.std.proofs.lemmas.Bool.{eq-eqb}
use Rattle.afl_outside.specs.Disk.{Moment}
use Rattle.event_core.specs.declared.entry.Entry.TheVariants.{Pin, Unpin, Reap}
use Rattle.event_core.specs.Allowed.{is_pinned}
use Rattle.event_core.specs.History.{History, OpenPin, names_at, open_pins, pages_at}
use Rattle.event_core.specs.Legal.{has_committed}
use Rattle.event_core.proofs.Tests.{both_not}
use Rattle.store_ledger.specs.declared.note.Note.{Note}
use Rattle.store_ledger.specs.Ledger.{has_note, is_tried}
use Rattle.store_versions.specs.Rows.{needed_rows, places_at}
use Rattle.store_versions.specs.Versions.{Directories, versions_at}
use Rattle.store_versions.proofs.Seen.{tables_follow_entries, forgetting_is_seen}
use Rattle.store_state.specs.Standings.{Standing}
use Rattle.store_state.specs.Kept.{IsKept}
use Rattle.store_state.specs.Inner.Keeping.{Keeping, AreDirectoriesOf, HasItsPages, tried_if_committed}
use Rattle.store_state.proofs.Lists.{all_push, all_filter, all_more, passes_filter, passes_push}

-- a pin makes no commit
less_committed : (a b n : Bool) → (not b || n) ≡ true → (not (not a && b) || n) ≡ true
less_committed true b n e = refl
less_committed false b n e = e

not_yet : (a b n : Bool) → a ≡ true → (not (not a && b) || n) ≡ true
not_yet true b n e = refl
not_yet false b n e = absurd (both_not false refl e)

tried_pin : (session : ℕ) (h : History) (notes : List Note) → list_all (tried_if_committed h notes) (open_pins h) ≡ true → list_all (tried_if_committed (Pin session ∷ h) notes) (open_pins (Pin session ∷ h)) ≡ true
tried_pin session h notes all =
    passes_push (tried_if_committed (Pin session ∷ h) notes) (open_pins h) (record { session = session; before = h })
    (all_more (tried_if_committed h notes) (tried_if_committed (Pin session ∷ h) notes) (λ pin. less_committed (nat_eq session pin.session) (has_committed pin.session h) (has_note is_tried notes pin)) (open_pins h) all)
    (not_yet (nat_eq session session) (has_committed session h) (has_note is_tried notes (record { session = session; before = h })) (eq-eqb session session refl))

module _ {D : Type 0} (moment : D → Moment) (s : Standing D) (k : Keeping) (h : History) (given : Directories) (x : IsKept moment s k h given) where
  pub kept_pin : (session : ℕ) → IsTrue (not (is_pinned session h)) → IsKept moment s k (Pin session ∷ h) given
  kept_pin session free = record {
    in_order = record { ordered = (x.in_order.ordered, free, tt); own = x.in_order.own; apart = x.in_order.apart };
    catalog = x.catalog;
    names = x.names;
    versions = record {
      first = x.versions.first;
      seen = (tables_follow_entries given k.rows s.ledger.base h x.versions.seen).pin session;
      now = x.versions.now;
      pinned = all_push (λ (pin : OpenPin). AreDirectoriesOf (names_at s.ledger.base pin.before) (versions_at s.ledger.base given pin.before)) (open_pins h)
          (record { session = session; before = h }) x.versions.pinned x.versions.now;
      in_order = x.versions.in_order;
      pages = x.versions.pages;
      pinned_pages = all_push (λ (pin : OpenPin). AllZip HasItsPages (pages_at s.ledger.base pin.before) (versions_at s.ledger.base given pin.before)) (open_pins h)
          (record { session = session; before = h }) x.versions.pinned_pages x.versions.pages;
    };
    slots = record { sequence = x.slots.sequence; records = x.slots.records; fits = x.slots.fits; log = x.slots.log; target = x.slots.target; alone = x.slots.alone };
    doubt = x.doubt;
    acked = x.acked;
    made = x.made;
    tried = tried_pin session h s.ledger.notes x.tried;
    noted = x.noted;
  }

  -- the table forgets what nobody can name any more
  pub kept_unpin : (session : ℕ) → IsTrue (is_pinned session h) →
      IsKept moment s (record k { rows = needed_rows (places_at (Unpin session ∷ h)) k.rows }) (Unpin session ∷ h) given
  kept_unpin session pinned = record {
    in_order = record { ordered = (x.in_order.ordered, pinned, tt); own = x.in_order.own; apart = x.in_order.apart };
    catalog = x.catalog;
    names = x.names;
    versions = record {
      first = x.versions.first;
      seen = forgetting_is_seen given k.rows s.ledger.base (Unpin session ∷ h) ((tables_follow_entries given k.rows s.ledger.base h x.versions.seen).unpin session);
      now = x.versions.now;
      pinned = all_filter (λ (pin : OpenPin). AreDirectoriesOf (names_at s.ledger.base pin.before) (versions_at s.ledger.base given pin.before))
          (λ pin. not (nat_eq pin.session session)) (open_pins h) x.versions.pinned;
      in_order = x.versions.in_order;
      pages = x.versions.pages;
      pinned_pages = all_filter (λ (pin : OpenPin). AllZip HasItsPages (pages_at s.ledger.base pin.before) (versions_at s.ledger.base given pin.before))
          (λ pin. not (nat_eq pin.session session)) (open_pins h) x.versions.pinned_pages;
    };
    slots = record { sequence = x.slots.sequence; records = x.slots.records; fits = x.slots.fits; log = x.slots.log; target = x.slots.target; alone = x.slots.alone };
    doubt = x.doubt;
    acked = x.acked;
    made = x.made;
    tried = passes_filter (tried_if_committed h s.ledger.notes) (λ pin. not (nat_eq pin.session session)) (open_pins h) x.tried;
    noted = x.noted;
  }

  pub kept_reap : IsKept moment s k (Reap ∷ h) given
  kept_reap = record {
    in_order = record { ordered = (x.in_order.ordered, refl, tt); own = x.in_order.own; apart = x.in_order.apart };
    catalog = x.catalog;
    names = x.names;
    versions = record {
      first = x.versions.first;
      seen = (tables_follow_entries given k.rows s.ledger.base h x.versions.seen).reap;
      now = x.versions.now;
      pinned = x.versions.pinned;
      in_order = x.versions.in_order;
      pages = x.versions.pages;
      pinned_pages = x.versions.pinned_pages;
    };
    slots = record { sequence = x.slots.sequence; records = x.slots.records; fits = x.slots.fits; log = x.slots.log; target = x.slots.target; alone = x.slots.alone };
    doubt = x.doubt;
    acked = x.acked;
    made = x.made;
    tried = x.tried;
    noted = x.noted;
  }
