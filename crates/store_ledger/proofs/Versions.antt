-- Room for the versions that may still be made without memory.
use Rattle.std.proofs.Common.{◌≡◌, ◌∙◌, ℕ, suc, ◌+◌, ◌-◌, ◌*◌, ◌≤◌, ◌<◌, not, List, [], ◌∷◌, ◌++◌, length, map, reverse, Some, IsTrue, true, false, refl, ap, sym, subst, arith}
use Rattle.std.specs.List.{sum_by}
use Rattle.std.proofs.lemmas.Bool.{and_parts}
use Rattle.store_versions.specs.Change.{Change}
use Rattle.store_versions.specs.Used.{Used}
use Rattle.store_versions.specs.Entry.{Entry}
use Rattle.store_versions.specs.Entry.TheVariants.{Pin, Unpin, Commit, Reap}
use Rattle.store_versions.specs.Core.{Core}
use Rattle.event_core.specs.Allowed.{IsBase, allows, is_pinned}
use Rattle.store_versions.specs.History.{History, OpenPin, open_pins, pin_before}
use Rattle.store_versions.specs.Legal.{has_committed}
use Rattle.store_versions.specs.Replay.{pin_at}
use Rattle.store_versions.specs.States.{core_place}
use Rattle.store_ledger.specs.declared.note.Note.{Note}
use Rattle.store_ledger.specs.declared.pinned.Pinned.{Pinned}
use Rattle.store_ledger.specs.Ledger.{LedgerState, IsOpenPin, has_room, history, open_place, reserved_by}
use Rattle.store_ledger.specs.Inner.Kept.{IsKept, HasVersionRoom, entries_to_come}
use Rattle.store_ledger.proofs.Pins.{one_more}
use Rattle.store_ledger.proofs.Keeping.{kept_as, kept_first, kept_pin, kept_unpin, kept_commit, begun_of, one_fits, given_back}
use Rattle.store_ledger.proofs.Opened.{room_of}

-- the same with as much room for entries as may come
tight : (base : Core) (limit : ℕ) (h : History) (notes : List Note) (core : Core) (r er nr p : ℕ) → IsKept base limit h notes core r er nr p →
    IsKept base limit h notes core r (length h + sum_by (entries_to_come h) (open_pins h)) nr p
tight base limit h notes core r er nr p k =
    let fe : length h + sum_by (entries_to_come h) (open_pins h) ≤ length h + sum_by (entries_to_come h) (open_pins h) = omega arith in
    record {
      begins = k.begins;
      allowed = k.allowed;
      made = k.made;
      noted = k.noted;
      reserved = k.reserved;
      within = k.within;
      for_entries = fe;
      for_notes = k.for_notes;
      marks = k.marks;
      few = k.few;
    }

-- the same of the entries after one more
room_next : (es fs : List Entry) (entry : Entry) (room : ℕ) → HasVersionRoom (entry ∷ reverse es) room → fs ≡ es ++ entry ∷ [] → HasVersionRoom (reverse fs) room
room_next es fs entry room has e = subst (λ (h : History). HasVersionRoom h room) (sym (ap reverse e ∙ one_more es entry)) has

pub pin_room : (ledger now : LedgerState) (session : ℕ) (core : Core) (r er nr p : ℕ) (es fs : List Entry) (room : ℕ) → ledger ≡ now →
    IsKept ledger.base ledger.limit (reverse ledger.entries) ledger.notes core r er nr p → IsTrue (not (is_pinned session (history now))) → has_room now 4 ≡ true →
    es ≡ ledger.entries → fs ≡ es ++ Pin session ∷ [] → 2 * r + 7 ≤ room → HasVersionRoom (reverse fs) room
pin_room ledger now session core r er nr p es fs room same k free fits ee ef more =
    let unpinned : IsTrue (not (is_pinned session (history ledger))) = subst (λ (l : LedgerState). IsTrue (not (is_pinned session (history l)))) (sym same) free in
    let four : length (reverse ledger.entries) + r + 4 ≤ ledger.limit = room_of ledger core r er nr p 4 k (subst (λ (l : LedgerState). has_room l 4 ≡ true) (sym same) fits) in
    let later = kept_pin ledger.base ledger.limit (reverse ledger.entries) ledger.notes core r er nr p session (length (reverse ledger.entries) + (2 * r + 7)) (length ledger.notes + (2 * r + 7)) k unpinned four (omega arith) (omega arith) in
    let sum : suc (length (reverse ledger.entries)) + sum_by (entries_to_come (Pin session ∷ reverse ledger.entries)) (open_pins (Pin session ∷ reverse ledger.entries)) ≤ length (reverse ledger.entries) + (2 * r + 7) = later.for_entries in
    let has : sum_by (entries_to_come (Pin session ∷ reverse ledger.entries)) (open_pins (Pin session ∷ reverse ledger.entries)) ≤ room = omega (arith, sum, more) in
    room_next ledger.entries fs (Pin session) room has (ef ∙ ap (λ (xs : List Entry). xs ++ Pin session ∷ []) ee)

pub unpin_room : (ledger now : LedgerState) (pinned : Pinned) (core : Core) (r er nr p : ℕ) (fs : List Entry) (old new : ℕ) → ledger ≡ now →
    IsKept ledger.base ledger.limit (reverse ledger.entries) ledger.notes core r er nr p → IsOpenPin now pinned → fs ≡ ledger.entries ++ Unpin pinned.session ∷ [] →
    HasVersionRoom (reverse ledger.entries) old → old ≤ new → HasVersionRoom (reverse fs) new
unpin_room ledger now pinned core r er nr p fs old new same k o ef had more =
    let begun : pin_before pinned.session (reverse ledger.entries) ≡ Some o.before = ap (λ (l : LedgerState). pin_before pinned.session (history l)) same ∙ o.begun in
    let less : reserved_by ledger.notes (record { session = pinned.session; before = o.before }) ≤ r =
    given_back ledger.base ledger.limit (reverse ledger.entries) ledger.notes core r er nr p pinned.session o.before k begun in
    let later = kept_unpin ledger.base ledger.limit (reverse ledger.entries) ledger.notes core r (length (reverse ledger.entries) + sum_by (entries_to_come (reverse ledger.entries)) (open_pins (reverse ledger.entries))) nr p
    pinned.session o.before (r - reserved_by ledger.notes (record { session = pinned.session; before = o.before }))
    (tight ledger.base ledger.limit (reverse ledger.entries) ledger.notes core r er nr p k) begun (omega (arith, less)) in
    let sum : suc (length (reverse ledger.entries)) + sum_by (entries_to_come (Unpin pinned.session ∷ reverse ledger.entries)) (open_pins (Unpin pinned.session ∷ reverse ledger.entries))
    ≤ length (reverse ledger.entries) + sum_by (entries_to_come (reverse ledger.entries)) (open_pins (reverse ledger.entries)) = later.for_entries in
    let has : sum_by (entries_to_come (Unpin pinned.session ∷ reverse ledger.entries)) (open_pins (Unpin pinned.session ∷ reverse ledger.entries)) ≤ new = omega (arith, sum, had, more) in
    room_next ledger.entries fs (Unpin pinned.session) new has ef

pub put_room : (ledger now : LedgerState) (session : ℕ) (change : Change) (used : Used) (core : Core) (r er nr p : ℕ) (fs : List Entry) (old new : ℕ) → ledger ≡ now →
    IsKept ledger.base ledger.limit (reverse ledger.entries) ledger.notes core r er nr p → IsTrue (allows now.base (history now) (Commit session change used)) →
    has_committed session (history now) ≡ false → has_room now 1 ≡ true → fs ≡ ledger.entries ++ Commit session change used ∷ [] →
    HasVersionRoom (reverse ledger.entries) old → old ≤ new + 1 → HasVersionRoom (reverse fs) new
put_room ledger now session change used core r er nr p fs old new same k ok first fits ef had more =
    let allowed : IsTrue (allows ledger.base (history ledger) (Commit session change used)) = subst (λ (l : LedgerState). IsTrue (allows l.base (history l) (Commit session change used))) (sym same) ok in
    let is_first : has_committed session (history ledger) ≡ false = subst (λ (l : LedgerState). has_committed session (history l) ≡ false) (sym same) first in
    let one : length (reverse ledger.entries) + r + 1 ≤ ledger.limit = room_of ledger core r er nr p 1 k (subst (λ (l : LedgerState). has_room l 1 ≡ true) (sym same) fits) in
    let later = kept_commit ledger.base ledger.limit (reverse ledger.entries) ledger.notes core r (length (reverse ledger.entries) + sum_by (entries_to_come (reverse ledger.entries)) (open_pins (reverse ledger.entries))) nr p
    session change used (tight ledger.base ledger.limit (reverse ledger.entries) ledger.notes core r er nr p k) allowed is_first one in
    let sum : suc (length (reverse ledger.entries)) + sum_by (entries_to_come (Commit session change used ∷ reverse ledger.entries)) (open_pins (Commit session change used ∷ reverse ledger.entries))
    ≤ length (reverse ledger.entries) + sum_by (entries_to_come (reverse ledger.entries)) (open_pins (reverse ledger.entries)) = later.for_entries in
    let has : sum_by (entries_to_come (Commit session change used ∷ reverse ledger.entries)) (open_pins (Commit session change used ∷ reverse ledger.entries)) ≤ new = omega (arith, sum, had, more) in
    room_next ledger.entries fs (Commit session change used) new has ef

-- there is room for the version of a commit that is allowed
pub version_fits : (ledger now : LedgerState) (session : ℕ) (change : Change) (used : Used) (core : Core) (r er nr p room : ℕ) → ledger ≡ now →
    IsKept ledger.base ledger.limit (reverse ledger.entries) ledger.notes core r er nr p → IsTrue (allows now.base (history now) (Commit session change used)) →
    HasVersionRoom (reverse ledger.entries) room → 0 < room
version_fits ledger now session change used core r er nr p room same k ok had =
    let allowed : IsTrue (allows ledger.base (history ledger) (Commit session change used)) = subst (λ (l : LedgerState). IsTrue (allows l.base (history l) (Commit session change used))) (sym same) ok in
    let b = begun_of session (reverse ledger.entries) (and_parts (is_pinned session (reverse ledger.entries)) _ allowed).0 in
    let fits : suc (length (reverse ledger.entries)) ≤ length (reverse ledger.entries) + sum_by (entries_to_come (reverse ledger.entries)) (open_pins (reverse ledger.entries)) =
    one_fits ledger.base ledger.limit (reverse ledger.entries) ledger.notes core r _ nr p session b.0 (tight ledger.base ledger.limit (reverse ledger.entries) ledger.notes core r er nr p k) b.1 in
    omega (arith, fits, had)

pub reap_room : (es fs : List Entry) (old new : ℕ) → HasVersionRoom (reverse es) old → new ≡ old → fs ≡ es ++ Reap ∷ [] → HasVersionRoom (reverse fs) new
reap_room es fs old new had same ef = room_next es fs Reap new (subst (λ (n : ℕ). HasVersionRoom (reverse es) n) (sym same) had) ef

-- the core's pins are the open ones
pub places_told : (base : Core) (pins : List OpenPin) → map core_place (map (pin_at base) pins) ≡ map open_place pins
places_told base [] = refl
places_told base (pin ∷ pins) = ap (λ (ps : List (ℕ × ℕ)). (pin.session, length pin.before) ∷ ps) (places_told base pins)

-- a ledger without entries, as its parts stand
pub first_of : (base start : Core) (limit : ℕ) (core : Core) (es : List Entry) (ns : List Note) (er nr p room : ℕ) → IsBase base → p ≡ base.limit → start ≡ base → core ≡ base → es ≡ [] → ns ≡ [] →
    IsKept start limit (reverse es) ns core 0 er nr p × HasVersionRoom (reverse es) room
first_of base start limit core es ns er nr p room b marks is_start is_core no_entry no_note = (
  subst (λ (s : Core). IsKept s limit (reverse es) ns core 0 er nr p) (sym is_start)
      (kept_as base limit [] (reverse es) [] ns base core 0 0 er nr p (kept_first base limit er nr p b marks) (ap reverse no_entry) no_note is_core refl),
  subst (λ (xs : List Entry). HasVersionRoom (reverse xs) room) (sym no_entry) (let none : sum_by (entries_to_come []) [] ≡ 0 = refl in omega (arith, none)),
)
