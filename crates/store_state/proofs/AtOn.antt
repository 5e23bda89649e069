-- The parts of a store go on over pins, unpins, reaps, notes and reads.
use Rattle.std.proofs.Common.{◌≡◌, ◌∙◌, ℕ, ◌+◌, ◌-◌, ◌^◌, ◌<◌, ◌≤◌, ◌⊎◌, inl, inr, ⊎_elim, min, Bool, true, false, not, ◌||◌, if◌then◌else◌, List, [], ◌∷◌, ◌++◌, length, reverse, IsTrue, refl, ap, sym, subst, arith, length-append}
use Rattle.std.specs.List.{filter, list_all}
use Rattle.std.proofs.Math.Nat.{min-eq_left, min-eq_right}
use Rattle.std.proofs.lemmas.Bool.{cases_lt}
use Rattle.std.proofs.lemmas.List.Elements.{filter-append}
use Rattle.std.proofs.lemmas.List.Folds.{list_any-append}
use Rattle.afl_outside.specs.Counts.{Rose}
use Rattle.afl_outside.specs.Disk.{LeavesOnly, Moment}
use Rattle.page_chain.specs.Inner.Runs.{OnlyReads}
use Rattle.page_chain.specs.Standing.{IsSound as AreSound}
use Rattle.plan_changes.specs.Databases.{Database}
use Rattle.page_file.specs.Moments.{IsKnown}
use Rattle.event_core.specs.declared.entry.Entry.{Entry}
use Rattle.event_core.specs.declared.entry.Entry.TheVariants.{Pin, Unpin, Commit, Reap}
use Rattle.event_core.specs.declared.state.Core.{Core}
use Rattle.event_core.specs.Allowed.{is_pinned}
use Rattle.event_core.specs.History.{History, open_pins}
use Rattle.event_core.specs.Legal.{has_committed}
use Rattle.store_versions.specs.Cores.{is_no_commit}
use Rattle.store_ledger.specs.declared.note.Note.{Note}
use Rattle.store_ledger.specs.declared.note.NoteKind.TheVariants.{Fault}
use Rattle.store_ledger.specs.Ledger.{LedgerState, has_note, history, is_noted, is_under, note_now, with_fault, is_tried, is_fault}
use Rattle.store_ledger.proofs.Pins.{one_more}
use Rattle.store_versions.specs.declared.row.VersionRow.{VersionRow}
use Rattle.store_versions.specs.Rows.{needed_rows, places_at}
use Rattle.store_versions.specs.Versions.{Directories}
use Rattle.store_state.specs.Standings.{Standing, BeganAs, HaveStood, IsAttempt, StoodFor, commit_places, given_of, made_at, with_entries, with_notes}
use Rattle.store_state.specs.Kept.{IsKept}
use Rattle.store_state.specs.Payloads.{HasPayloads, HasTold, HoldsPayloads}
use Rattle.store_state.specs.Cells.{HoldsCells}
use Rattle.store_state.specs.At.{IsAt}
use Rattle.store_state.specs.Inner.Keeping.{Keeping, tried_if_committed, AreCounted}
use Rattle.store_state.proofs.Attempts.{attempt_noted, have_stood_noted, some_map}
use Rattle.store_state.proofs.Lists.{all_more, zip_map}
use Rattle.store_state.proofs.KeptOn.{kept_pin, kept_unpin, kept_reap}
use Rattle.store_state.proofs.CellsOn.{cells_pin, cells_unpin, cells_reap}
use Rattle.store_state.proofs.PayloadsOn.{payloads_pin, payloads_unpin, payloads_reap}

-- what is no commit makes no place of one
pub places_same : (place : ℕ) (entries : List Entry) (entry : Entry) → is_no_commit entry ≡ true → commit_places place (entries ++ entry ∷ []) ≡ commit_places place entries
places_same place [] (Pin session) e = refl
places_same place [] (Unpin session) e = refl
places_same place [] (Commit session change used) e = cc
places_same place [] Reap e = refl
places_same place (Pin session ∷ entries) entry e = places_same (place + 1) entries entry e
places_same place (Unpin session ∷ entries) entry e = places_same (place + 1) entries entry e
places_same place (Commit session change used ∷ entries) entry e = ap (λ (places : List ℕ). place ∷ places) (places_same (place + 1) entries entry e)
places_same place (Reap ∷ entries) entry e = places_same (place + 1) entries entry e

module _ {D : Type 0} (moment : D → Moment) (s : Standing D) (k : Keeping) (h : History) (given : Directories) where
  kept_as : (es : List Entry) → IsKept moment s k h given → IsKept moment (with_entries es s) k h given
  kept_as es x = record {
    in_order = x.in_order;
    catalog = x.catalog;
    names = x.names;
    versions = x.versions;
    slots = x.slots;
    doubt = x.doubt;
    acked = x.acked;
    made = x.made;
    tried = x.tried;
    noted = x.noted;
  }

  payloads_as : (ledger : LedgerState) → ledger.base ≡ s.ledger.base → (file : List ℕ) → HoldsPayloads moment s k file h given →
      HoldsPayloads moment (record s { ledger = ledger }) k file h given
  payloads_as ledger same file x = record {
    bytes = x.bytes;
    known = x.known;
    images = λ image left. subst (λ (base : Core). HasPayloads base given file h image) (sym same) (x.images image left);
  }

  cells_as : (es : List Entry) (db : Database) (places : List ℕ) → HoldsCells moment s k db h given places →
      HoldsCells moment (record s { ledger = record (s.ledger) { entries = es } }) k db h given places
  cells_as es db places x = record {
    legal = x.legal;
    database = x.database;
    pinned = x.pinned;
    doubt = x.doubt;
    bytes = x.bytes;
    known = x.known;
    found = x.found;
    is_found = x.is_found;
    images = x.images;
    past = x.past;
    acked = x.acked;
  }

  pub cells_noted : (more : List Note) (db : Database) (places : List ℕ) → HoldsCells moment s k db h given places →
      HoldsCells moment (with_notes more s) k db h given places
  cells_noted more db places x = record {
    legal = x.legal;
    database = x.database;
    pinned = x.pinned;
    doubt = some_map (IsAttempt db s.ledger.notes h) (IsAttempt db (s.ledger.notes ++ more) h) (attempt_noted db s.ledger.notes more h) s.doubt x.doubt;
    bytes = x.bytes;
    known = x.known;
    found = x.found;
    is_found = x.is_found;
    images = x.images;
    past = have_stood_noted (moment s.disk) db s.ledger.notes more h 0 _ x.past;
    acked = zip_map _ _ (λ place since. have_stood_noted (moment s.disk) db s.ledger.notes more h (place + 1) since) places s.acked x.acked;
  }

-- ---- entries

module _ {D : Type 0} (moment : D → Moment) (s : Standing D) (k : Keeping) (entry : Entry) (quiet : is_no_commit entry ≡ true) where
  at_entry : IsKept moment s k (entry ∷ history s.ledger) (given_of s) →
      ((file : List ℕ) → HasTold (moment s.opened.disk).state file → HoldsPayloads moment s k file (entry ∷ history s.ledger) (given_of s)) →
      ((db : Database) → BeganAs (moment s.opened.disk).state db → HoldsCells moment s k db (entry ∷ history s.ledger) (given_of s) (commit_places 0 s.ledger.entries)) →
      IsAt moment (with_entries (entry ∷ []) s) k
  at_entry kept payloads cells =
      let next : Standing D = with_entries (entry ∷ []) s in
      let later : reverse (s.ledger.entries ++ entry ∷ []) ≡ entry ∷ reverse s.ledger.entries = one_more s.ledger.entries entry in
      let same : commit_places 0 (s.ledger.entries ++ entry ∷ []) ≡ commit_places 0 s.ledger.entries = places_same 0 s.ledger.entries entry quiet in
      record {
        kept = subst (λ (h : History). IsKept moment next k h (given_of next)) (sym later)
            (subst (λ (places : List ℕ). IsKept moment next k (entry ∷ history s.ledger) (record { first = s.first; made = made_at places s.made })) (sym same)
            (kept_as moment s k (entry ∷ history s.ledger) (given_of s) (entry ∷ []) kept));
        payloads = λ file told. subst (λ (h : History). HoldsPayloads moment next k file h (given_of next)) (sym later)
            (subst (λ (places : List ℕ). HoldsPayloads moment next k file (entry ∷ history s.ledger) (record { first = s.first; made = made_at places s.made })) (sym same)
            (payloads_as moment s k (entry ∷ history s.ledger) (given_of s) next.ledger refl file (payloads file told)));
        cells = λ db began. subst (λ (h : History). HoldsCells moment next k db h (given_of next) (commit_places 0 next.ledger.entries)) (sym later)
            (subst (λ (places : List ℕ). HoldsCells moment next k db (entry ∷ history s.ledger) (record { first = s.first; made = made_at places s.made }) places) (sym same)
            (cells_as moment s k (entry ∷ history s.ledger) (given_of s) (s.ledger.entries ++ entry ∷ []) db (commit_places 0 s.ledger.entries) (cells db began)));
      }

module _ {D : Type 0} (moment : D → Moment) (s : Standing D) (k : Keeping) (x : IsAt moment s k) where
  pub at_pin : (session : ℕ) → IsTrue (not (is_pinned session (history s.ledger))) → IsAt moment (with_entries (Pin session ∷ []) s) k
  at_pin session free = at_entry moment s k (Pin session) refl
      (kept_pin moment s k (history s.ledger) (given_of s) x.kept session free)
      (λ file told. payloads_pin moment s k file (history s.ledger) (given_of s) (x.payloads file told) session)
      (λ db began. cells_pin moment s k db (history s.ledger) (given_of s) (commit_places 0 s.ledger.entries) (x.cells db began) session free)

  pub at_unpin : (session : ℕ) → IsTrue (is_pinned session (history s.ledger)) →
      IsAt moment (with_entries (Unpin session ∷ []) s) (record k { rows = needed_rows (places_at (Unpin session ∷ history s.ledger)) k.rows })
  at_unpin session pinned =
      let rows : List VersionRow = needed_rows (places_at (Unpin session ∷ history s.ledger)) k.rows in
      at_entry moment s (record k { rows = rows }) (Unpin session) refl
      (kept_unpin moment s k (history s.ledger) (given_of s) x.kept session pinned)
      (λ file told. payloads_unpin moment s k file (history s.ledger) (given_of s) (x.payloads file told) session rows)
      (λ db began. cells_unpin moment s k db (history s.ledger) (given_of s) (commit_places 0 s.ledger.entries) (x.cells db began) session rows pinned)

  pub at_reap : IsAt moment (with_entries (Reap ∷ []) s) k
  at_reap = at_entry moment s k Reap refl
      (kept_reap moment s k (history s.ledger) (given_of s) x.kept)
      (λ file told. payloads_reap moment s k file (history s.ledger) (given_of s) (x.payloads file told))
      (λ db began. cells_reap moment s k db (history s.ledger) (given_of s) (commit_places 0 s.ledger.entries) (x.cells db began))

-- ---- notes

more_noted : (c a b : Bool) → (not c || a) ≡ true → (not c || (a || b)) ≡ true
more_noted c true b e = e
more_noted false false b e = refl
more_noted true false b e = cc

pub tried_on : (h : History) (notes : List Note) (note : Note) → list_all (tried_if_committed h notes) (open_pins h) ≡ true → list_all (tried_if_committed h (notes ++ note ∷ [])) (open_pins h) ≡ true
tried_on h notes note all = all_more (tried_if_committed h notes) (tried_if_committed h (notes ++ note ∷ []))
    (λ pin e. ap (λ (b : Bool). not (has_committed pin.session h) || b) (list_any-append (is_under is_tried pin) notes (note ∷ []))
    ∙ more_noted (has_committed pin.session h) (has_note is_tried notes pin) _ e) (open_pins h) all

abbrev notes_fault : Note → Bool
notes_fault note = is_fault note.kind

-- one more note of a fault
faults_more : (notes : List Note) (note : Note) → notes_fault note ≡ true → length (filter notes_fault (notes ++ note ∷ [])) ≡ length (filter notes_fault notes) + 1
faults_more notes note e =
    ap (λ (ns : List Note). length ns) (filter-append notes_fault notes (note ∷ []))
    ∙ ap (λ (b : Bool). length (filter notes_fault notes ++ (if b then note ∷ [] else []))) e
    ∙ length-append (filter notes_fault notes) (note ∷ [])

module _ {D : Type 0} (moment : D → Moment) (s : Standing D) (k : Keeping) (x : IsAt moment s k) where
  pub at_noted : (note : Note) → AreCounted (moment s.opened.disk).state.faults (moment s.disk).state.faults (s.ledger.notes ++ note ∷ []) → IsAt moment (with_notes (note ∷ []) s) k
  at_noted note counted = record {
    kept = record {
      in_order = x.kept.in_order;
      catalog = x.kept.catalog;
      names = x.kept.names;
      versions = x.kept.versions;
      slots = x.kept.slots;
      doubt = x.kept.doubt;
      acked = x.kept.acked;
      made = x.kept.made;
      tried = tried_on (history s.ledger) s.ledger.notes note x.kept.tried;
      noted = counted;
    };
    payloads = λ file told. payloads_as moment s k (history s.ledger) (given_of s) (with_notes (note ∷ []) s).ledger refl file (x.payloads file told);
    cells = λ db began. cells_noted moment s k (history s.ledger) (given_of s) (note ∷ []) db (commit_places 0 s.ledger.entries) (x.cells db began);
  }

-- ---- reads

-- a count that doesn't fall
pub counted_later : (opened old new : ℕ) (notes : List Note) → old ≤ new → AreCounted opened old notes → AreCounted opened new notes
counted_later opened old new notes le = ⊎_elim (λ few. inl (omega (arith, few, le))) (λ last. inr (omega (arith, last, le)))

-- a count that rose has room for one more
counted_risen : (opened old new n m : ℕ) → m ≡ n + 1 → min (old + 1) (2 ^ 64 - 1) ≤ new → opened + n ≤ old → (old < 2 ^ 64 - 1) ⊎ (2 ^ 64 - 1 ≤ old) → (opened + m ≤ new) ⊎ (2 ^ 64 - 1 ≤ new)
counted_risen opened old new n m one rose few (inl below) =
    let short : old + 1 ≤ 2 ^ 64 - 1 = omega (arith, below) in
    let e : min (old + 1) (2 ^ 64 - 1) ≡ old + 1 = min-eq_left short in
    inl (omega (arith, e, rose, one, few))
counted_risen opened old new n m one rose few (inr last) =
    let long : 2 ^ 64 - 1 ≤ old + 1 = omega (arith, last) in
    let e : min (old + 1) (2 ^ 64 - 1) ≡ 2 ^ 64 - 1 = min-eq_right long in
    inr (omega (arith, e, rose))

counted_last : (old new : ℕ) → min (old + 1) (2 ^ 64 - 1) ≤ new → 2 ^ 64 - 1 ≤ old → 2 ^ 64 - 1 ≤ new
counted_last old new rose last =
    let long : 2 ^ 64 - 1 ≤ old + 1 = omega (arith, last) in
    let e : min (old + 1) (2 ^ 64 - 1) ≡ 2 ^ 64 - 1 = min-eq_right long in
    omega (arith, e, rose)

pub counted_more : (opened old new : ℕ) (notes : List Note) (note : Note) → notes_fault note ≡ true → Rose old new → AreCounted opened old notes → AreCounted opened new (notes ++ note ∷ [])
counted_more opened old new notes note e rose (inl few) =
    counted_risen opened old new (length (filter notes_fault notes)) (length (filter notes_fault (notes ++ note ∷ []))) (faults_more notes note e) rose few (cases_lt old (2 ^ 64 - 1))
counted_more opened old new notes note e rose (inr last) = inr (counted_last old new rose last)

-- images of a disk that was only read are those that it had, and each moment since then had such
stood_read : (old new : Moment) (db : Database) (notes : List Note) (h : History) (least since : ℕ) → OnlyReads old new → HaveStood old db notes h least since →
    ((image : List ℕ) → old.may_leave image → StoodFor db notes least h image) → HaveStood new db notes h least since
stood_read old new db notes h least since reads x now =
    let time : LeavesOnly old.state.moment new.state.moment old.left_since new.left_since old.may_leave = reads.time in
    let later : since ≤ new.state.moment = omega (arith, x.gone, time.later) in
    record {
      gone = later;
      made = x.made;
      images = λ image left. ⊎_elim (λ past. x.images image past) (λ here. now image here) (time.earlier since image x.gone left);
    }

-- an image of now stands for the whole history
stood_now : {D : Type 0} (moment : D → Moment) (s : Standing D) (k : Keeping) (db : Database) (h : History) (given : Directories) (places : List ℕ) →
    HoldsCells moment s k db h given places → (least : ℕ) → least ≤ length h → (image : List ℕ) → (moment s.disk).may_leave image → StoodFor db s.ledger.notes least h image
stood_now moment s k db h given places x least made image left = record {
  later = [];
  before = h;
  part = refl;
  enough = made;
  more = s.doubt;
  tried = x.doubt;
  stands = (x.images image left).stands;
}

module _ {D : Type 0} (moment : D → Moment) (s : Standing D) (k : Keeping) (disk : D) (reads : OnlyReads (moment s.disk) (moment disk))
    (sound : (seen : List ℕ) → AreSound k.slots seen (moment s.disk).may_leave → AreSound k.slots seen (moment disk).may_leave) where
  known_read : (bytes : List ℕ) → IsKnown k.slots bytes (moment s.disk) → IsKnown k.slots bytes (moment disk)
  known_read bytes x = record {
    honest = subst IsTrue (sym reads.same.honest) x.honest;
    tells = reads.seen ∙ x.tells;
    sound = sound bytes x.sound;
  }

  payloads_read : (file : List ℕ) (h : History) (given : Directories) → HoldsPayloads moment s k file h given → HoldsPayloads moment (record s { disk = disk }) k file h given
  payloads_read file h given x = record {
    bytes = x.bytes;
    known = known_read x.bytes x.known;
    images = λ image left. x.images image (reads.crash image left);
  }

  cells_read : (db : Database) (h : History) (given : Directories) (places : List ℕ) → HoldsCells moment s k db h given places → HoldsCells moment (record s { disk = disk }) k db h given places
  cells_read db h given places x = record {
    legal = x.legal;
    database = x.database;
    pinned = x.pinned;
    doubt = x.doubt;
    bytes = x.bytes;
    known = known_read x.bytes x.known;
    found = x.found;
    is_found = x.is_found;
    images = λ image left. x.images image (reads.crash image left);
    past = stood_read (moment s.disk) (moment disk) db s.ledger.notes h 0 _ reads x.past (λ image left. stood_now moment s k db h given places x 0 x.past.made image left);
    acked = zip_map _ _ (λ place since a. stood_read (moment s.disk) (moment disk) db s.ledger.notes h (place + 1) since reads a (λ image left. stood_now moment s k db h given places x (place + 1) a.made image left)) places s.acked x.acked;
  }

  pub at_read : IsAt moment s k → IsAt moment (record s { disk = disk }) k
  at_read x = record {
    kept = record {
      in_order = x.kept.in_order;
      catalog = x.kept.catalog;
      names = x.kept.names;
      versions = x.kept.versions;
      slots = x.kept.slots;
      doubt = x.kept.doubt;
      acked = x.kept.acked;
      made = x.kept.made;
      tried = x.kept.tried;
      noted = counted_later (moment s.opened.disk).state.faults (moment s.disk).state.faults (moment disk).state.faults s.ledger.notes reads.same.later x.kept.noted;
    };
    payloads = λ file told. payloads_read file (history s.ledger) (given_of s) (x.payloads file told);
    cells = λ db began. cells_read db (history s.ledger) (given_of s) (commit_places 0 s.ledger.entries) (x.cells db began);
  }

  -- where the count rose, the first note of a fault under a session's pin
  pub at_fault : (session : ℕ) → Rose (moment s.disk).state.faults (moment disk).state.faults → IsAt moment s k →
      IsAt moment (record s { disk = disk; ledger = with_fault session s.ledger }) k
  at_fault session rose x =
      fault_if (is_noted is_fault s.ledger session)
    where
      fault_if : (b : Bool) → IsAt moment (record s { disk = disk; ledger = if b then s.ledger else (with_notes (note_now Fault s.ledger session ∷ []) s).ledger }) k
      fault_if true = at_read x
      fault_if false = at_noted moment (record s { disk = disk }) k (at_read x) (note_now Fault s.ledger session)
          (counted_more (moment s.opened.disk).state.faults (moment s.disk).state.faults (moment disk).state.faults s.ledger.notes (note_now Fault s.ledger session) refl rose x.kept.noted)

-- the same, as the ledger's call says it
pub with_ledger : {D : Type 0} (moment : D → Moment) (s : Standing D) (k : Keeping) (made ledger : LedgerState) → made ≡ ledger → IsAt moment (record s { ledger = ledger }) k → IsAt moment (record s { ledger = made }) k
with_ledger moment s k made ledger e x = subst (λ (l : LedgerState). IsAt moment (record s { ledger = l }) k) (sym e) x

pub with_rows : {D : Type 0} (moment : D → Moment) (s : Standing D) (k : Keeping) (made rows : List VersionRow) → made ≡ rows → IsAt moment s (record k { rows = rows }) → IsAt moment s (record k { rows = made })
with_rows moment s k made rows e x = subst (λ (r : List VersionRow). IsAt moment s (record k { rows = r })) (sym e) x

pub at_reap_if : {D : Type 0} (moment : D → Moment) (s : Standing D) (k : Keeping) → IsAt moment s k → (comes : Bool) →
    IsAt moment (record s { ledger = if comes then (with_entries (Reap ∷ []) s).ledger else s.ledger }) k
at_reap_if moment s k x true = at_reap moment s k x
at_reap_if moment s k x false = x

pub reaped_if : {D : Type 0} (s : Standing D) (made : LedgerState) (comes : Bool) → made ≡ (if comes then (with_entries (Reap ∷ []) s).ledger else s.ledger) →
    record s { ledger = made } ≡ (if comes then with_entries (Reap ∷ []) s else s)
reaped_if s made true e = ap (λ (l : LedgerState). record s { ledger = l }) e
reaped_if s made false e = ap (λ (l : LedgerState). record s { ledger = l }) e
