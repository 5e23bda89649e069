-- A store goes on over the note that a commit is tried.
use Rattle.std.proofs.Common.{◌≡◌, ◌∙◌, ◌⊎◌, ◌+◌, ◌-◌, ◌^◌, ◌≤◌, ◌<◌, ℕ, Bool, true, false, not, ◌&&◌, ◌||◌, nat_eq, nat_lt, List, [], ◌∷◌, ◌++◌, length, Option, None, Some, IfSome, IsTrue, refl, ap, sym, subst, arith}
use Rattle.std.specs.List.{filter, list_all, list_any}
use Rattle.std.proofs.lemmas.Bool.{and_from, and_parts, eq-eqb, or_right}
use Rattle.std.proofs.lemmas.Bool.Decides.{nat_tests}
use Rattle.std.proofs.lemmas.List.{append-nil, length-reverse}
use Rattle.std.specs.Prelude.{Contains}
use Rattle.std.proofs.lemmas.List.Elements.{Contains-push, filter-append}
use Rattle.std.proofs.lemmas.List.Folds.{list_any-append}
use Rattle.afl_outside.specs.Disk.{Moment}
use Rattle.plan_changes.specs.declared.change.Change.{Change}
use Rattle.event_core.specs.Allowed.{is_allowed, is_pinned}
use Rattle.event_core.specs.History.{History, OpenPin, open_pins, pin_before}
use Rattle.event_core.specs.Legal.{has_committed}
use Rattle.store_versions.specs.Pins.{PlaceTells, pins_of}
use Rattle.store_versions.proofs.Legal.{ordered_is_allowed}
use Rattle.store_versions.proofs.Pins.{open_pins_are_these, places_tell_pins}
use Rattle.store_ledger.specs.declared.note.Note.{Note}
use Rattle.store_ledger.specs.Ledger.{LedgerState, has_note, has_under, history, attempt, is_fault, is_noted, is_tried, is_under, note_now, with_notes}
use Rattle.store_ledger.proofs.Keeping.{begun_of}
use Rattle.prepared_commits.specs.At.{IsAt}
use Rattle.prepared_commits.specs.Standings.{Standing, WasTriedBy}
use Rattle.prepared_commits.specs.Keeping.{Keeping, tried_if_committed, AreCounted}
use Rattle.prepared_commits.proofs.AtOn.{at_noted}
use Rattle.prepared_commits.proofs.Lists.{passes_filter}
use Rattle.store_sealing.specs.Left.{tried_now}

-- ---- the note

abbrev notes_fault : Note → Bool
notes_fault note = is_fault note.kind

-- it is none of a fault
counted_tried : (opened now : ℕ) (ledger : LedgerState) (session : ℕ) (change : Change) → AreCounted opened now ledger.notes → AreCounted opened now (ledger.notes ++ note_now (attempt change) ledger session ∷ [])
counted_tried opened now ledger session change counted =
    let same : filter notes_fault (ledger.notes ++ note_now (attempt change) ledger session ∷ []) ≡ filter notes_fault ledger.notes
    = filter-append notes_fault ledger.notes (note_now (attempt change) ledger session ∷ []) ∙ append-nil (filter notes_fault ledger.notes) in
    subst (λ (ns : List Note). (opened + length ns ≤ now) ⊎ (2 ^ 64 - 1 ≤ now)) (sym same) counted

pub at_tried : {D : Type 0} (moment : D → Moment) (s : Standing D) (k : Keeping) (session : ℕ) (change : Change) → IsAt moment s k → IsAt moment (tried_now session change s) k
at_tried moment s k session change x = at_noted moment s k x (note_now (attempt change) s.ledger session) (counted_tried (moment s.opened.disk).state.faults (moment s.disk).state.faults s.ledger session change x.kept.noted)

-- what note_tried asks
pub first_by : (notes : List Note) (session : ℕ) (o : Option History) → has_under is_tried notes session o ≡ false → IfSome o (λ before. has_note is_tried notes (record { session = session; before = before }) ≡ false)
first_by notes session None e = tt
first_by notes session (Some before) e = e

-- ---- under a pin

later_than : (a b : ℕ) → a < b → nat_lt a b ≡ true
later_than a b less = grind (arith, nat_tests)

pub tried_is_noted : (ledger : LedgerState) (session : ℕ) (change : Change) → is_pinned session (history ledger) ≡ true → IsTrue (is_noted is_tried (with_notes (note_now (attempt change) ledger session ∷ []) ledger) session)
tried_is_noted ledger session change pinned =
    let begun = begun_of session (history ledger) pinned in
    let before : History = begun.0 in
    let pin : OpenPin = record { session = session; before = before } in
    let note : Note = note_now (attempt change) ledger session in
    let tells : PlaceTells (history ledger) before = places_tell_pins session (history ledger) before begun.1 in
    let within = tells.within in
    let long : length (history ledger) ≡ length ledger.entries = length-reverse ledger.entries in
    let own : is_under is_tried pin note ≡ true =
    and_from (nat_eq session session) (is_tried (attempt change) && nat_lt (length before) (length ledger.entries)) (eq-eqb session session refl)
    (later_than (length before) (length ledger.entries) (omega (arith, within, long))) in
    let has : has_note is_tried (ledger.notes ++ note ∷ []) pin ≡ true =
    list_any-append (is_under is_tried pin) ledger.notes (note ∷ [])
    ∙ or_right (has_note is_tried ledger.notes pin) (is_under is_tried pin note || false) (ap (λ (b : Bool). b || false) own) in
    ap (has_under is_tried (ledger.notes ++ note ∷ []) session) begun.1 ∙ has

-- this change was tried
pub was_tried : (ledger : LedgerState) (session : ℕ) (change : Change) → WasTriedBy session (ledger.notes ++ note_now (attempt change) ledger session ∷ []) (history ledger) change
was_tried ledger session change = record {
  since = [];
  start = history ledger;
  part = refl;
  noted = subst (λ (n : ℕ). Contains (ledger.notes ++ note_now (attempt change) ledger session ∷ []) (record { session = session; kind = attempt change; after = n })) (sym (length-reverse ledger.entries))
      (Contains-push ledger.notes (note_now (attempt change) ledger session));
  still = refl;
}

not_true : (b c : Bool) → (not b || c) ≡ true → c ≡ false → b ≡ false
not_true true c e none = absurd (let bad : true ≡ false = sym e ∙ none in cc)
not_true false c e none = refl

-- where no commit was tried under a session's pin, it has none
pub none_committed : {D : Type 0} (moment : D → Moment) (s : Standing D) (k : Keeping) (session : ℕ) → IsAt moment s k → is_pinned session (history s.ledger) ≡ true → is_noted is_tried s.ledger session ≡ false
    → has_committed session (history s.ledger) ≡ false
none_committed moment s k session x pinned none =
    let h : History = history s.ledger in
    let begun = begun_of session h pinned in
    let pin : OpenPin = record { session = session; before = begun.0 } in
    let ok : IsTrue (is_allowed s.ledger.base h) = (ordered_is_allowed s.ledger.base h x.kept.in_order.ordered).1 in
    let these : filter (λ p. nat_eq p.session session) (open_pins h) ≡ pin ∷ [] = open_pins_are_these s.ledger.base session h ok ∙ ap (pins_of session) begun.1 in
    let all : list_all (tried_if_committed h s.ledger.notes) (pin ∷ []) ≡ true
    = ap (list_all (tried_if_committed h s.ledger.notes)) (sym these) ∙ passes_filter (tried_if_committed h s.ledger.notes) (λ (p : OpenPin). nat_eq p.session session) (open_pins h) x.kept.tried in
    let one : tried_if_committed h s.ledger.notes pin ≡ true = (and_parts (tried_if_committed h s.ledger.notes pin) true all).0 in
    let untried : has_note is_tried s.ledger.notes pin ≡ false = ap (has_under is_tried s.ledger.notes session) (sym begun.1) ∙ none in
    not_true (has_committed session h) (has_note is_tried s.ledger.notes pin) one untried
