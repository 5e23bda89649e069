-- The first commit that is tried under a pin.
use Rattle.std.proofs.Common.{◌≡◌, ◌∙◌, ℕ, ◌+◌, ◌<◌, Bool, true, false, not, ◌&&◌, ◌||◌, if◌then◌else◌, nat_eq, nat_lt, List, [], ◌∷◌, ◌++◌, length, reverse, refl, ap, sym, arith, zero-add}
use Rattle.std.specs.List.{filter, sum_by}
use Rattle.std.proofs.lemmas.Bool.{eq-eqb}
use Rattle.std.proofs.lemmas.Bool.Decides.{nat_tests}
use Rattle.std.proofs.lemmas.List.{length-reverse}
use Rattle.std.proofs.lemmas.List.Folds.{list_any-append}
use Rattle.std.proofs.lemmas.List.Sums.{sum_by-cons, sum_by_push}
use Rattle.store_versions.specs.History.{History, OpenPin, open_pins}
use Rattle.store_versions.proofs.Tests.{both_not, eq_sym}
use Rattle.store_versions.specs.Pins.{pins_of, PlaceTells}
use Rattle.store_versions.proofs.Pins.{open_pins_are_these, places_tell_pins}
use Rattle.store_ledger.specs.declared.note.Note.{Note}
use Rattle.store_ledger.specs.Ledger.{attempt, is_tried, is_under, has_note, note_now, reserved_by}
use Rattle.store_ledger.specs.Laws.{TriedGivesTwoBack}
use Rattle.store_ledger.proofs.Pins.{split}

nothing_more : (a b c : Bool) → b ≡ false → (a || ((b && c) || false)) ≡ a
nothing_more true b c e = refl
nothing_more false true c e = absurd (both_not true e refl)
nothing_more false false c e = refl

-- a note of another session changes nothing of what a pin reserves
same_reserve : (notes : List Note) (note : Note) (pin : OpenPin) → nat_eq note.session pin.session ≡ false → reserved_by notes pin ≡ reserved_by (notes ++ note ∷ []) pin
same_reserve notes note pin other =
    ap (λ (b : Bool). if b then 1 else 3)
    (sym (list_any-append (is_under is_tried pin) notes (note ∷ []) ∙ nothing_more (has_note is_tried notes pin) (nat_eq note.session pin.session) _ other))

same_at : (f g : OpenPin → ℕ) (pin : OpenPin) (b : Bool) (pins : List OpenPin) → (b ≡ false → f pin ≡ g pin) → sum_by f pins ≡ sum_by g pins →
    sum_by f (if not b then pin ∷ pins else pins) ≡ sum_by g (if not b then pin ∷ pins else pins)
same_at f g pin true pins one rest = rest
same_at f g pin false pins one rest = sum_by-cons f pin pins ∙ ap (λ (n : ℕ). n + sum_by f pins) (one refl) ∙ ap (λ (n : ℕ). g pin + n) rest ∙ sym (sum_by-cons g pin pins)

-- two sums over the pins that fail a test agree where their terms do
pub same_sum : (f g : OpenPin → ℕ) (t : OpenPin → Bool) → ((pin : OpenPin) → t pin ≡ false → f pin ≡ g pin) → (pins : List OpenPin) →
    sum_by f (filter (λ pin. not (t pin)) pins) ≡ sum_by g (filter (λ pin. not (t pin)) pins)
same_sum f g t one [] = refl
same_sum f g t one (pin ∷ pins) = same_at f g pin (t pin) (filter (λ other. not (t other)) pins) (one pin) (same_sum f g t one pins)

earlier : (n count : ℕ) → n < count → nat_lt n count ≡ true
earlier n count h = grind (arith, nat_tests)

found : (a b c : Bool) → b ≡ true → c ≡ true → (a || ((b && c) || false)) ≡ true
found true b c e f = refl
found false true true e f = refl
found false false c e f = absurd (both_not false refl e)
found false true false e f = absurd (both_not false refl f)

pub tried_gives_two_back : TriedGivesTwoBack
tried_gives_two_back ledger session change before ok begun none =
    let h : History = reverse ledger.entries in
    let note : Note = note_now (attempt change) ledger session in
    let own : OpenPin = record { session = session; before = before } in
    let t : OpenPin → Bool = λ pin. nat_eq pin.session session in
    let f : OpenPin → ℕ = reserved_by ledger.notes in
    let g : OpenPin → ℕ = reserved_by (ledger.notes ++ note ∷ []) in
    let these : filter t (open_pins h) ≡ own ∷ [] = open_pins_are_these ledger.base session h ok ∙ ap (pins_of session) begun in
    let place : PlaceTells h before = places_tell_pins session h before begun in
    let one : f own ≡ 3 = ap (λ (b : Bool). if b then 1 else 3) none in
    let later : nat_lt (length before) (length ledger.entries) ≡ true = earlier (length before) (length ledger.entries) (omega (arith, place.within, length-reverse ledger.entries)) in
    let two : g own ≡ 1 = ap (λ (b : Bool). if b then 1 else 3)
    (list_any-append (is_under is_tried own) ledger.notes (note ∷ [])
    ∙ found (has_note is_tried ledger.notes own) (nat_eq session session) (nat_lt (length before) (length ledger.entries)) (eq-eqb session session refl) later) in
    let all_f : sum_by f (open_pins h) ≡ sum_by f (filter (λ pin. not (t pin)) (open_pins h)) + f own =
    split f t (open_pins h) ∙ ap (λ (n : ℕ). sum_by f (filter (λ pin. not (t pin)) (open_pins h)) + n) (ap (sum_by f) these ∙ sum_by_push f [] own ∙ zero-add (f own)) in
    let all_g : sum_by g (open_pins h) ≡ sum_by g (filter (λ pin. not (t pin)) (open_pins h)) + g own =
    split g t (open_pins h) ∙ ap (λ (n : ℕ). sum_by g (filter (λ pin. not (t pin)) (open_pins h)) + n) (ap (sum_by g) these ∙ sum_by_push g [] own ∙ zero-add (g own)) in
    let others : sum_by f (filter (λ pin. not (t pin)) (open_pins h)) ≡ sum_by g (filter (λ pin. not (t pin)) (open_pins h)) =
    same_sum f g t (λ pin e. same_reserve ledger.notes note pin (eq_sym session pin.session ∙ e)) (open_pins h) in
    omega (arith, all_f, all_g, others, one, two)
