-- Lists of seats that grow or shrink at their end.
use Rattle.std.proofs.Common.{◌≡◌, ℕ, zero, suc, ◌+◌, ◌-◌, ◌<◌, List, [], ◌∷◌, ◌++◌, map, length, length-append, ap, ◌∙◌, arith, append_assoc, get_or, All}
use mathlib.Core.Option.{some}
use lib.ListN.{get_elem?}
use Rattle.std.proofs.lemmas.List.{map-append}
use Rattle.turn_lock.specs.Inner.Views.{new_claims}

pub one_less : (number seats : ℕ) → number < seats → seats - number ≡ suc (seats - (number + 1))
one_less number seats lt = omega arith

pub next_claims : (E : Type 0) (number more : ℕ) → new_claims {E = E} (suc number) more ≡ new_claims (number + 1) more
next_claims E number more = ap (λ k. new_claims {E = E} k more) (let g : suc number ≡ number + 1 = omega arith in g)

below_next : (k n : ℕ) → k < n → suc k < suc n
below_next k n lt = omega arith

next_below : (k n : ℕ) → suc k < suc n → k < n
next_below k n lt = omega arith

module _ {A : Type 0} where
  pub longer_by_one : (xs : List A) (a : A) (ys : List A) (n : ℕ) → ys ≡ xs ++ a ∷ [] → length xs ≡ n → length ys ≡ n + 1
  longer_by_one xs a ys n e d = ap length e ∙ length-append xs (a ∷ []) ∙ ap (λ k. k + 1) d

  pub one_fewer : (xs : List A) (a : A) (ys : List A) → ys ≡ xs ++ a ∷ [] → length xs < length ys
  one_fewer xs a ys e = let n : ℕ = length xs in let m : ℕ = length ys in let longer : m ≡ n + 1 = longer_by_one xs a ys (length xs) e (λ _. length xs) in
      let g : n < m = omega arith in g

  -- a fact of each place, for a list with one more at its end
  pub places_more : (P : ℕ → A → Type 0) (xs : List A) (a : A) → ((k : ℕ) (d : A) → k < length xs → P k (get_or xs k d)) → P (length xs) a
      → (k : ℕ) (d : A) → k < length (xs ++ a ∷ []) → P k (get_or (xs ++ a ∷ []) k d)
  places_more P [] a old new zero d near = new
  places_more P [] a old new (suc k) d near = absurd (omega arith)
  places_more P (x ∷ xs) a old new zero d near = old zero d (let n : ℕ = length xs in let g : 0 < suc n = omega arith in g)
  places_more P (x ∷ xs) a old new (suc k) d near = places_more (λ j. P (suc j)) xs a (λ j e lt. old (suc j) e (below_next j (length xs) lt)) new k d (next_below k (length (xs ++ a ∷ [])) near)

  -- what holds of all holds of those that are left once the last is gone, and of the last
  pub all_left : (P : A → Type 0) (xs : List A) (a : A) → All P (xs ++ a ∷ []) → All P xs
  all_left P [] a all k d near = absurd (omega arith)
  all_left P (x ∷ xs) a all zero d near = all zero d (let n : ℕ = length (xs ++ a ∷ []) in let g : 0 < suc n = omega arith in g)
  all_left P (x ∷ xs) a all (suc k) d near = all_left P xs a (λ j e lt. all (suc j) e (below_next j (length (xs ++ a ∷ [])) lt)) k d (next_below k (length xs) near)

  pub all_last : (P : A → Type 0) (xs : List A) (a : A) → All P (xs ++ a ∷ []) → P a
  all_last P [] a all = all zero a (omega arith)
  all_last P (x ∷ xs) a all = all_last P xs a (λ j e lt. all (suc j) e (below_next j (length (xs ++ a ∷ [])) lt))

  module _ {B : Type 0} where
    -- what holds of all images holds of all items, by their images
    pub all_unmapped : (P : B → Type 0) (f : A → B) (xs : List A) → All P (map f xs) → All (λ x. P (f x)) xs
    all_unmapped P f [] all k d near = absurd (omega arith)
    all_unmapped P f (x ∷ xs) all zero d near = all zero (f d) (let n : ℕ = length (map f xs) in let g : 0 < suc n = omega arith in g)
    all_unmapped P f (x ∷ xs) all (suc k) d near = all_unmapped P f xs (λ j e lt. all (suc j) e (below_next j (length (map f xs)) lt)) k d (next_below k (length xs) near)

    -- the last item goes over to its image
    pub gathered : (f : A → B) (left : List A) (last : A) (bs : List B) → map f (left ++ last ∷ []) ++ bs ≡ map f left ++ f last ∷ bs
    gathered f left last bs = ap (λ l. l ++ bs) (map-append f left (last ∷ [])) ∙ append_assoc (map f left) (f last ∷ []) bs

  -- the item of a place
  pub item_at : (l : List A) (i : ℕ) (d : A) → i < length l → get_elem? l i ≡ some (get_or l i d)
  item_at [] i d near = absurd (omega arith)
  item_at (x ∷ xs) zero d near = λ _. some x
  item_at (x ∷ xs) (suc i) d near = item_at xs i d (next_below i (length xs) near)
