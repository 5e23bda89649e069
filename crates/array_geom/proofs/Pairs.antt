-- Two lists item by item, as a function reads them from the front.
use Rattle.std.proofs.Common.{◌≡◌, ◌++◌, append-nil, append_assoc, ◌-◌, ◌≤◌, ◌<◌, List, [], ◌∷◌, length, take, drop, get_or, refl, sym, ◌∙◌, ap, arith}
use Rattle.std.proofs.lemmas.List.{take_all}
use Rattle.array_rows.specs.Boxes.{by_pairs}

-- the first items are taken off
pub by_pairs_first : {A B C : Type 0} (f : A → B → C) (xs : List A) (ys : List B) (x : A) (y : B) → 1 ≤ length xs → 1 ≤ length ys → x ≡ get_or xs 0 x
    → by_pairs f xs ys ≡ f x (get_or ys 0 y) ∷ by_pairs f (take (length xs - 1) (drop 1 xs)) (take (length ys - 1) (drop 1 ys))
by_pairs_first f [] ys x y some _ _ = absurd (omega (arith, some))
by_pairs_first f (z ∷ xs) [] x y _ some _ = absurd (omega (arith, some))
by_pairs_first {A = A} {B = B} f (z ∷ xs) (w ∷ ys) x y _ _ first =
    let all_xs : take (length (z ∷ xs) - 1) xs ≡ xs = take_all (length (z ∷ xs) - 1) xs (omega arith) in
    let all_ys : take (length (w ∷ ys) - 1) ys ≡ ys = take_all (length (w ∷ ys) - 1) ys (omega arith) in
    ap (λ (a : A). f a w ∷ by_pairs f xs ys) (sym first)
    ∙ sym (ap (λ (l : List A). f x w ∷ by_pairs f l (take (length (w ∷ ys) - 1) ys)) all_xs ∙ ap (λ (l : List B). f x w ∷ by_pairs f xs l) all_ys)

pub by_pairs_none : {A B C : Type 0} (f : A → B → C) (xs : List A) (ys : List B) → length ys < 1 → by_pairs f xs ys ≡ []
by_pairs_none f [] ys none = refl
by_pairs_none f (z ∷ xs) [] none = refl
by_pairs_none f (z ∷ xs) (w ∷ ys) none = absurd (omega (arith, none))

pub no_pairs : {A B C : Type 0} (f : A → B → C) (xs : List A) (ys : List B) (old : List C) → length xs < 1 → old ≡ old ++ by_pairs f xs ys
no_pairs f [] ys old none = sym (append-nil old)
no_pairs f (x ∷ xs) ys old none = absurd (omega (arith, none))

-- what is pushed first stands before what the rest gives
pub pairs_pushed : {A B C : Type 0} (f : A → B → C) (xs : List A) (ys : List B) (x : A) (y : B) (old more new : List C) (z : C) → 1 ≤ length xs → 1 ≤ length ys → x ≡ get_or xs 0 x
    → more ≡ old ++ z ∷ [] → new ≡ more ++ by_pairs f (take (length xs - 1) (drop 1 xs)) (take (length ys - 1) (drop 1 ys)) → z ≡ f x (get_or ys 0 y) → new ≡ old ++ by_pairs f xs ys
pairs_pushed {C = C} f xs ys x y old more new z some_xs some_ys first pushed rest is =
    let after = by_pairs f (take (length xs - 1) (drop 1 xs)) (take (length ys - 1) (drop 1 ys)) in
    rest ∙ ap (λ (l : List C). l ++ after) pushed ∙ append_assoc old (z ∷ []) after
    ∙ ap (λ (l : List C). old ++ l) (ap (λ (c : C). c ∷ after) is ∙ sym (by_pairs_first f xs ys x y some_xs some_ys first))
