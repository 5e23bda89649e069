-- What is committed under a pin was tried under it.
use Rattle.std.proofs.Common.{◌≡◌, ◌∙◌, ℕ, Bool, true, false, not, ◌||◌, if◌then◌else◌, nat_eq, List, [], ◌∷◌, Option, None, Some, IsTrue, refl, ap}
use Rattle.std.specs.List.{filter, list_all}
use Rattle.std.proofs.lemmas.Bool.{and_from, and_parts, or_right}
use Rattle.plan_changes.specs.declared.change.Change.{Change}
use Rattle.event_core.specs.declared.entry.Used.{Used}
use Rattle.event_core.specs.declared.entry.Entry.TheVariants.{Commit}
use Rattle.event_core.specs.declared.state.Core.{Core}
use Rattle.event_core.specs.Allowed.{is_allowed}
use Rattle.event_core.specs.History.{History, OpenPin, open_pins, pin_before}
use Rattle.event_core.specs.Legal.{has_committed}
use Rattle.event_core.proofs.Tests.{eq_sym}
use Rattle.store_versions.specs.Pins.{pins_of}
use Rattle.store_versions.proofs.Pins.{open_pins_are_these}
use Rattle.store_ledger.specs.declared.note.Note.{Note}
use Rattle.store_ledger.specs.Ledger.{has_note, has_under, is_tried}
use Rattle.prepared_commits.specs.Keeping.{tried_if_committed}

-- one test of the items that are chosen, another of the rest
both_pass : {A : Type 0} (t n p q : A → Bool) → ((x : A) → t x ≡ true → n x ≡ true → q x ≡ true) → ((x : A) → t x ≡ false → p x ≡ true → q x ≡ true) →
    (xs : List A) → list_all n (filter t xs) ≡ true → list_all p xs ≡ true → list_all q xs ≡ true
both_pass t n p q those other [] chosen all = refl
both_pass t n p q those other (x ∷ xs) chosen all =
    let parts : (p x ≡ true) × (list_all p xs ≡ true) = and_parts (p x) (list_all p xs) all in
    by_test (t x) refl parts.0 (λ rest. both_pass t n p q those other xs rest parts.1) chosen
  where
    by_test : (b : Bool) → t x ≡ b → p x ≡ true → (list_all n (filter t xs) ≡ true → list_all q xs ≡ true) →
        list_all n (if b then x ∷ filter t xs else filter t xs) ≡ true → list_all q (x ∷ xs) ≡ true
    by_test true is was more its =
        let both : (n x ≡ true) × (list_all n (filter t xs) ≡ true) = and_parts (n x) (list_all n (filter t xs)) its in
        and_from (q x) (list_all q xs) (those x is both.0) (more both.1)
    by_test false is was more its = and_from (q x) (list_all q xs) (other x is was) (more its)

noted_all : (session : ℕ) (notes : List Note) (o : Option History) → has_under is_tried notes session o ≡ true → list_all (has_note is_tried notes) (pins_of session o) ≡ true
noted_all session notes None is = refl
noted_all session notes (Some before) is = and_from (has_note is_tried notes (record { session = session; before = before })) true is refl

pub tried_commit : (base : Core) (h : History) (notes : List Note) (session : ℕ) (change : Change) (used : Used) → IsTrue (is_allowed base h) →
    has_under is_tried notes session (pin_before session h) ≡ true → list_all (tried_if_committed h notes) (open_pins h) ≡ true →
    list_all (tried_if_committed (Commit session change used ∷ h) notes) (open_pins h) ≡ true
tried_commit base h notes session change used ok noted all =
    both_pass (λ (pin : OpenPin). nat_eq pin.session session) (has_note is_tried notes) (tried_if_committed h notes) (tried_if_committed (Commit session change used ∷ h) notes)
    (λ pin is has. or_right (not (nat_eq session pin.session || has_committed pin.session h)) (has_note is_tried notes pin) has)
    (λ pin is was. ap (λ (b : Bool). not (b || has_committed pin.session h) || has_note is_tried notes pin) (eq_sym session pin.session ∙ is) ∙ was)
    (open_pins h)
    (ap (list_all (has_note is_tried notes)) (open_pins_are_these base session h ok) ∙ noted_all session notes (pin_before session h) noted)
    all
