-- Lists that loops make item by item, and lists from the front.
use Rattle.std.proofs.Common.{◌≡◌, ◌∙◌, ◌+◌, ◌-◌, ◌<◌, ◌≤◌, ℕ, ℤ, pos, ◌&&◌, List, [], ◌∷◌, ◌++◌, length, map, take, drop, get_or, ap, arith, sym}
use Rattle.std.specs.Prelude.{int_le}
use Rattle.std.proofs.lemmas.List.{map-append, take_all, take_more}
use Rattle.array_rows.specs.Boxes.{is_between}

pub copied_on : {A : Type 0} (xs copy new : List A) (k : ℕ) (x y : A) → k < length xs → x ≡ get_or xs k x → y ≡ x → copy ≡ take k xs → new ≡ copy ++ y ∷ []
    → new ≡ take (k + 1) xs
copied_on {A = A} xs copy new k x y near at same before more =
    more ∙ ap (λ (l : List A). l ++ y ∷ []) before ∙ ap (λ (z : A). take k xs ++ z ∷ []) (same ∙ at) ∙ sym (take_more xs k x near)

pub mapped_on : {A B : Type 0} (f : A → B) (xs : List A) (made new : List B) (k : ℕ) (d : A) (y : B) → k < length xs → y ≡ f (get_or xs k d)
    → made ≡ map f (take k xs) → new ≡ made ++ y ∷ [] → new ≡ map f (take (k + 1) xs)
mapped_on {A = A} {B = B} f xs made new k d y near is before more =
    more ∙ ap (λ (l : List B). l ++ y ∷ []) before ∙ ap (λ (z : B). map f (take k xs) ++ z ∷ []) is
    ∙ sym (map-append f (take k xs) (get_or xs k d ∷ [])) ∙ ap (map f) (sym (take_more xs k d near))

rest_is : {A : Type 0} (x : A) (xs : List A) → take (length (x ∷ xs) - 1) (drop 1 (x ∷ xs)) ≡ xs
rest_is x xs = take_all (length (x ∷ xs) - 1) xs (omega arith)

-- the first numbers are compared, and then the others
pub between_first : (lo hi at : List ℤ) → 1 ≤ length lo → 1 ≤ length hi → 1 ≤ length at
    → is_between lo hi at ≡ (int_le (get_or lo 0 (pos 0)) (get_or at 0 (pos 0)) && int_le (get_or at 0 (pos 0)) (get_or hi 0 (pos 0))
    && is_between (take (length lo - 1) (drop 1 lo)) (take (length hi - 1) (drop 1 hi)) (take (length at - 1) (drop 1 at)))
between_first [] hi at some _ _ = absurd (omega (arith, some))
between_first (l ∷ lo) [] at _ some _ = absurd (omega (arith, some))
between_first (l ∷ lo) (h ∷ hi) [] _ _ some = absurd (omega (arith, some))
between_first (l ∷ lo) (h ∷ hi) (x ∷ at) _ _ _ =
    sym (ap (λ (ls : List ℤ). int_le l x && int_le x h && is_between ls (take (length (h ∷ hi) - 1) hi) (take (length (x ∷ at) - 1) at)) (rest_is l lo)
    ∙ ap (λ (hs : List ℤ). int_le l x && int_le x h && is_between lo hs (take (length (x ∷ at) - 1) at)) (rest_is h hi)
    ∙ ap (λ (xs : List ℤ). int_le l x && int_le x h && is_between lo hi xs) (rest_is x at))
