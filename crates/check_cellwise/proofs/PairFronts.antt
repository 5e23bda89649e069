-- Pairs of two lists, as functions read the lists from the front: what is pushed first stands before what the rest gives.
use Rattle.std.proofs.Common.{◌≡◌, ◌∙◌, ◌+◌, ◌-◌, ◌≤◌, ◌<◌, List, [], ◌∷◌, ◌++◌, append-nil, append_assoc, length, take, drop, get_or, length-append, sym, ap, arith}
use Rattle.std.proofs.lemmas.List.{take_all}
use Rattle.array_rows.specs.Boxes.{by_pairs}

abbrev pub rest : {A : Type 0} → List A → List A
rest xs = take (length xs - 1) (drop 1 xs)

rest_is : {A : Type 0} (x : A) (xs : List A) → rest (x ∷ xs) ≡ xs
rest_is x xs = take_all (length (x ∷ xs) - 1) xs (omega arith)

pub shorter : {A : Type 0} (xs : List A) → 1 ≤ length xs → length (rest xs) < length xs
shorter [] some = absurd (omega (arith, some))
shorter (x ∷ xs) some = let same : length (rest (x ∷ xs)) ≡ length xs = ap length (rest_is x xs) in omega arith

-- of six places, one is taken for the first item
pub room_left : {A B : Type 0} (old new : List A) (x : A) (ys : List B) → 1 ≤ length ys → new ≡ old ++ x ∷ [] → length old + length ys ≤ 6
    → length new + length (rest ys) ≤ 6
room_left old new x [] some is room = absurd (omega (arith, some))
room_left old new x (y ∷ ys) some is room =
    let more : length new ≡ length old + 1 = ap length is ∙ length-append old (x ∷ []) in
    let same : length (rest (y ∷ ys)) ≡ length ys = ap length (rest_is y ys) in omega arith

module _ {A B C : Type 0} (f : A → B → C) where
  pub no_first : (xs : List A) (ys : List B) (old : List C) → length xs < 1 → old ≡ old ++ by_pairs f xs ys
  no_first [] ys old none = sym (append-nil old)
  no_first (x ∷ xs) ys old none = absurd (omega (arith, none))

  pub no_second : (xs : List A) (ys : List B) (old : List C) → length ys < 1 → old ≡ old ++ by_pairs f xs ys
  no_second [] ys old none = sym (append-nil old)
  no_second (x ∷ xs) [] old none = sym (append-nil old)
  no_second (x ∷ xs) (y ∷ ys) old none = absurd (omega (arith, none))

  pub pushed : (xs : List A) (ys : List B) (x : A) (y : B) (old more new : List C) (z : C) → 1 ≤ length xs → 1 ≤ length ys → x ≡ get_or xs 0 x → y ≡ get_or ys 0 y
      → more ≡ old ++ z ∷ [] → new ≡ more ++ by_pairs f (rest xs) (rest ys) → z ≡ f x y → new ≡ old ++ by_pairs f xs ys
  pushed [] ys x y old more new z some also _ _ _ _ _ = absurd (omega (arith, some))
  pushed (a ∷ xs) [] x y old more new z some also _ _ _ _ _ = absurd (omega (arith, also))
  pushed (a ∷ xs) (b ∷ ys) x y old more new z some also first second one after is =
      after ∙ ap (λ (l : List A). more ++ by_pairs f l (rest (b ∷ ys))) (rest_is a xs) ∙ ap (λ (l : List B). more ++ by_pairs f xs l) (rest_is b ys)
      ∙ ap (λ (l : List C). l ++ by_pairs f xs ys) one ∙ append_assoc old (z ∷ []) (by_pairs f xs ys)
      ∙ ap (λ (c : C). old ++ c ∷ by_pairs f xs ys) (is ∙ ap (λ (t : A). f t y) first ∙ ap (λ (t : B). f a t) second)
