-- Dimensions that are not paired.
use Rattle.std.proofs.Common.{◌≡◌, ℕ, ◌+◌, ◌<◌, Bool, true, false, cond, List, [], ◌∷◌, ◌++◌, length, take, get_or, sym, ap, ◌∙◌, arith}
use Rattle.std.specs.Prelude.{◌==◌}
use Rattle.std.specs.List.{list_any}
use Rattle.std.proofs.lemmas.List.{take_more, length-take}
use Rattle.logical_plan.specs.BoxOps.{items_but}

-- one more item stays, unless its place is among those left out
items_but-more : {A : Type 0} (places : List ℕ) (n m : ℕ) (xs : List A) (x : A) → n + length xs ≡ m → items_but places n (xs ++ x ∷ []) ≡ items_but places n xs ++ cond (list_any (λ p. p == m) places) [] (x ∷ [])
items_but-more places n m [] x e = ap (λ k. cond (list_any (λ p. p == k) places) [] (x ∷ [])) (omega (arith, e))
items_but-more places n m (y ∷ xs) x e = cases (list_any (λ p. p == n) places) (items_but-more places (n + 1) m xs x (omega (arith, e)))
  where
    cases : (b : Bool) → items_but places (n + 1) (xs ++ x ∷ []) ≡ items_but places (n + 1) xs ++ cond (list_any (λ p. p == m) places) [] (x ∷ [])
        → cond b (items_but places (n + 1) (xs ++ x ∷ [])) (y ∷ items_but places (n + 1) (xs ++ x ∷ [])) ≡ cond b (items_but places (n + 1) xs) (y ∷ items_but places (n + 1) xs) ++ cond (list_any (λ p. p == m) places) [] (x ∷ [])
    cases true h = h
    cases false h = ap (λ ys. y ∷ ys) h

front_length : {A : Type 0} (xs : List A) (i : ℕ) → i < length xs → 0 + length (take i xs) ≡ i
front_length xs i lt = omega (arith, lt, length-take i xs)

-- the next item of a list
pub unpaired_step : {A : Type 0} (places : List ℕ) (xs : List A) (i : ℕ) (x : A) → i < length xs → x ≡ get_or xs i x
    → items_but places 0 (take (i + 1) xs) ≡ items_but places 0 (take i xs) ++ cond (list_any (λ p. p == i) places) [] (x ∷ [])
unpaired_step places xs i x lt is =
    ap (items_but places 0) (take_more xs i x lt ∙ ap (λ y. take i xs ++ y ∷ []) (sym is))
    ∙ items_but-more places 0 i (take i xs) x (front_length xs i lt)
