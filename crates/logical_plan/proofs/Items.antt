-- Items at places of a list, one item at a time.
use Rattle.std.proofs.Common.{◌≡◌, ℕ, ◌+◌, ◌<◌, Bool, true, false, cond, List, [], ◌∷◌, ◌++◌, length, take, get_or, Option, Some, None, refl, sym, ap, ◌∙◌, arith}
use Rattle.std.specs.Prelude.{◌==◌, ◌||◌, slice_get, slice_index}
use Rattle.std.specs.List.{list_any, cons_option}
use Rattle.std.specs.Option.{option_to_list}
use Rattle.std.proofs.lemmas.List.{take_more, length-take}
use Rattle.std.proofs.lemmas.List.Elements.{filter_map-append}
use Rattle.logical_plan.specs.declared.parts.Fixed.{Fixed}
use Rattle.logical_plan.specs.BoxOps.{items_at, items_but, fixed_places}

-- ---- items at some places

one_item : {A : Type 0} (o : Option A) → cons_option o [] ≡ option_to_list o
one_item None = refl
one_item (Some x) = refl

-- one more place adds its item, where there is one
pub items_at_step : {A : Type 0} (items : List A) (places : List ℕ) (i : ℕ) → i < length places → items_at (take (i + 1) places) items ≡ items_at (take i places) items ++ option_to_list (slice_get items (slice_index places i))
items_at_step items places i lt =
    ap (λ ps. items_at ps items) (take_more places i 0 lt)
    ∙ filter_map-append (slice_get items) (take i places) (slice_index places i ∷ [])
    ∙ ap (λ xs. items_at (take i places) items ++ xs) (one_item (slice_get items (slice_index places i)))

-- ---- items at all other places

-- a test of the places of fixed dimensions
fixed_any : (p : ℕ → Bool) (fixed : List Fixed) → list_any p (fixed_places fixed) ≡ list_any (λ f. p f.dimension) fixed
fixed_any p [] = refl
fixed_any p (f ∷ fixed) = ap (λ b. p f.dimension || b) (fixed_any p fixed)

-- one more item stays, unless its place is among those left out
items_but-more : {A : Type 0} (places : List ℕ) (n m : ℕ) (xs : List A) (x : A) → n + length xs ≡ m → items_but places n (xs ++ x ∷ []) ≡ items_but places n xs ++ cond (list_any (λ p. p == m) places) [] (x ∷ [])
items_but-more places n m [] x e = ap (λ k. cond (list_any (λ p. p == k) places) [] (x ∷ [])) (omega (arith, e))
items_but-more places n m (y ∷ xs) x e = cases (list_any (λ p. p == n) places) (items_but-more places (n + 1) m xs x (omega (arith, e)))
  where
    cases : (b : Bool) → items_but places (n + 1) (xs ++ x ∷ []) ≡ items_but places (n + 1) xs ++ cond (list_any (λ p. p == m) places) [] (x ∷ [])
        → cond b (items_but places (n + 1) (xs ++ x ∷ [])) (y ∷ items_but places (n + 1) (xs ++ x ∷ [])) ≡ cond b (items_but places (n + 1) xs) (y ∷ items_but places (n + 1) xs) ++ cond (list_any (λ p. p == m) places) [] (x ∷ [])
    cases true h = h
    cases false h = ap (λ ys. y ∷ ys) h

front_length : {A : Type 0} (xs : List A) (i : ℕ) → i < length xs → 0 + length (take i xs) ≡ i
front_length xs i lt = omega (arith, lt, length-take i xs)

-- one more item stays, unless its place is one of the fixed ones
pub free_step : {A : Type 0} (fixed : List Fixed) (xs : List A) (i : ℕ) (x : A) → i < length xs → x ≡ get_or xs i x
    → items_but (fixed_places fixed) 0 (take (i + 1) xs) ≡ items_but (fixed_places fixed) 0 (take i xs) ++ cond (list_any (λ f. f.dimension == i) fixed) [] (x ∷ [])
free_step fixed xs i x lt is =
    ap (items_but (fixed_places fixed) 0) (take_more xs i x lt ∙ ap (λ y. take i xs ++ y ∷ []) (sym is))
    ∙ items_but-more (fixed_places fixed) 0 i (take i xs) x (front_length xs i lt)
    ∙ ap (λ b. items_but (fixed_places fixed) 0 (take i xs) ++ cond b [] (x ∷ [])) (fixed_any (λ p. p == i) fixed)
