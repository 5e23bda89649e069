-- The same pages in another order.
use Rattle.std.proofs.Common.{◌≡◌, ◌∙◌, ℕ, ◌+◌, Bool, true, false, not, ◌&&◌, ◌||◌, List, [], ◌∷◌, ◌++◌, length, refl, sym, ap, arith}
use Rattle.std.specs.Prelude.{nat_eq}
use Rattle.std.proofs.lemmas.List.{length-append}
use Rattle.version_reaper.specs.PageSets.{holds}
use Rattle.event_core.specs.Allowed.{are_different}
use Rattle.event_core.proofs.Tests.{eq_sym}
use Rattle.commit_pages.specs.Laws.{AreSamePages}

or_assoc : (a b c : Bool) → (a || (b || c)) ≡ ((a || b) || c)
or_assoc true b c = refl
or_assoc false b c = refl

or_swap : (a b c : Bool) → (a || (b || c)) ≡ (b || (a || c))
or_swap true true c = refl
or_swap true false c = refl
or_swap false b c = refl

pub holds_append : (a b : List ℕ) (page : ℕ) → holds (a ++ b) page ≡ (holds a page || holds b page)
holds_append [] b page = refl
holds_append (x ∷ a) b page = ap (λ (t : Bool). nat_eq x page || t) (holds_append a b page) ∙ or_assoc (nat_eq x page) (holds a page) (holds b page)

swap_held : (a b c : List ℕ) (page : ℕ) → holds (a ++ (b ++ c)) page ≡ holds (b ++ (a ++ c)) page
swap_held a b c page =
    holds_append a (b ++ c) page
    ∙ ap (λ (t : Bool). holds a page || t) (holds_append b c page)
    ∙ or_swap (holds a page) (holds b page) (holds c page)
    ∙ ap (λ (t : Bool). holds b page || t) (sym (holds_append a c page))
    ∙ sym (holds_append b (a ++ c) page)

swap_many : (a b c : List ℕ) → length (a ++ (b ++ c)) ≡ length (b ++ (a ++ c))
swap_many a b c =
    let p : length (a ++ (b ++ c)) ≡ length a + length (b ++ c) = length-append a (b ++ c) in
    let q : length (b ++ c) ≡ length b + length c = length-append b c in
    let r : length (b ++ (a ++ c)) ≡ length b + length (a ++ c) = length-append b (a ++ c) in
    let s : length (a ++ c) ≡ length a + length c = length-append a c in
    omega (arith, p, q, r, s)

tests : (e h k d : Bool) → (not (e || h) && (not k && d)) ≡ (not (e || k) && (not h && d))
tests true h k d = refl
tests false true true d = refl
tests false true false d = refl
tests false false true d = refl
tests false false false d = refl

-- a page further to the front
move : (x : ℕ) (a b : List ℕ) → are_different (a ++ x ∷ b) ≡ are_different (x ∷ (a ++ b))
move x [] b = refl
move x (y ∷ a) b =
    ap (λ (t : Bool). not (holds (a ++ x ∷ b) y) && t) (move x a b)
    ∙ ap (λ (t : Bool). not t && (not (holds (a ++ b) x) && are_different (a ++ b))) (swap_held a (x ∷ []) b y ∙ ap (λ (t : Bool). t || holds (a ++ b) y) (eq_sym x y))
    ∙ tests (nat_eq y x) (holds (a ++ b) y) (holds (a ++ b) x) (are_different (a ++ b))

swap_different : (a b c : List ℕ) → are_different (a ++ (b ++ c)) ≡ are_different (b ++ (a ++ c))
swap_different a [] c = refl
swap_different a (y ∷ b) c =
    move y a (b ++ c)
    ∙ ap (λ (t : Bool). not t && are_different (a ++ (b ++ c))) (swap_held a b c y)
    ∙ ap (λ (t : Bool). not (holds (b ++ (a ++ c)) y) && t) (swap_different a b c)

-- two parts change their places
pub swapped : (a b c : List ℕ) → AreSamePages (a ++ (b ++ c)) (b ++ (a ++ c))
swapped a b c = record { held = swap_held a b c; many = swap_many a b c; different = λ e. swap_different a b c ∙ e }

pub unchanged : (a : List ℕ) → AreSamePages a a
unchanged a = record { held = λ page. refl; many = refl; different = λ e. e }
