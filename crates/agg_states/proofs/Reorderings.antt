-- Lists in another order, and what does not depend on it.
use Rattle.std.proofs.Common.{◌≡◌, suc, ℤ, pos, ◌+ℤ◌, Bool, true, false, cond, List, [], ◌∷◌, ◌++◌, map, filter, length, refl, ap, ◌∙◌, arith, subst, inl, inr}
use Rattle.std.specs.List.{AllByRecursion}
use Rattle.std.proofs.lemmas.Int.{ints}
use Rattle.cell_values.specs.declared.datum.Datum.{Datum}
use Rattle.logical_plan.specs.Groups.{number_of, sum_of}
use Rattle.agg_states.specs.Best.{IsOneOf}

pub data Reordered (A : Type 0) : List A → List A → Type 0 where
  done : Reordered A [] []
  keep : (x : A) {xs ys : List A} → Reordered A xs ys → Reordered A (x ∷ xs) (x ∷ ys)
  swap : (x y : A) (xs : List A) → Reordered A (x ∷ y ∷ xs) (y ∷ x ∷ xs)
  both : {xs ys zs : List A} → Reordered A xs ys → Reordered A ys zs → Reordered A xs zs

pub same_order : {A : Type 0} (xs : List A) → Reordered A xs xs
same_order [] = done
same_order (x ∷ xs) = keep x (same_order xs)

pub back : {A : Type 0} {xs ys : List A} → Reordered A xs ys → Reordered A ys xs
back done = done
back (keep x r) = keep x (back r)
back (swap x y xs) = swap y x xs
back (both r s) = both (back s) (back r)

pub length-reordered : {A : Type 0} {xs ys : List A} → Reordered A xs ys → length xs ≡ length ys
length-reordered done = refl
length-reordered (keep x r) = ap suc (length-reordered r)
length-reordered (swap x y xs) = refl
length-reordered (both r s) = length-reordered r ∙ length-reordered s

pub map-reordered : {A B : Type 0} (f : A → B) {xs ys : List A} → Reordered A xs ys → Reordered B (map f xs) (map f ys)
map-reordered f done = done
map-reordered f (keep x r) = keep (f x) (map-reordered f r)
map-reordered f (swap x y xs) = swap (f x) (f y) (map f xs)
map-reordered f (both r s) = both (map-reordered f r) (map-reordered f s)

kept : {A : Type 0} (x : A) (b : Bool) {xs ys : List A} → Reordered A xs ys → Reordered A (cond b (x ∷ xs) xs) (cond b (x ∷ ys) ys)
kept x true r = keep x r
kept x false r = r

swapped : {A : Type 0} (x y : A) (b c : Bool) (xs : List A) → Reordered A (cond b (x ∷ cond c (y ∷ xs) xs) (cond c (y ∷ xs) xs)) (cond c (y ∷ cond b (x ∷ xs) xs) (cond b (x ∷ xs) xs))
swapped x y true true xs = swap x y xs
swapped x y true false xs = same_order (x ∷ xs)
swapped x y false true xs = same_order (y ∷ xs)
swapped x y false false xs = same_order xs

pub filter-reordered : {A : Type 0} (p : A → Bool) {xs ys : List A} → Reordered A xs ys → Reordered A (filter p xs) (filter p ys)
filter-reordered p done = done
filter-reordered p (keep x r) = kept x (p x) (filter-reordered p r)
filter-reordered p (swap x y xs) = swapped x y (p x) (p y) (filter p xs)
filter-reordered p (both r s) = both (filter-reordered p r) (filter-reordered p s)

pub all-reordered : {A : Type 0} (P : A → Type 0) {xs ys : List A} → Reordered A xs ys → AllByRecursion P xs → AllByRecursion P ys
all-reordered P done h = h
all-reordered P (keep x r) h = (h.0, all-reordered P r h.1)
all-reordered P (swap x y xs) h = (h.1.0, (h.0, h.1.1))
all-reordered P (both r s) h = all-reordered P s (all-reordered P r h)

pub one-reordered : (v : Datum) {xs ys : List Datum} → Reordered Datum xs ys → IsOneOf v xs → IsOneOf v ys
one-reordered v done h = h
one-reordered v (keep x r) (inl e) = inl e
one-reordered v (keep x r) (inr h) = inr (one-reordered v r h)
one-reordered v (swap x y xs) (inl e) = inr (inl e)
one-reordered v (swap x y xs) (inr (inl e)) = inl e
one-reordered v (swap x y xs) (inr (inr h)) = inr (inr h)
one-reordered v (both r s) h = one-reordered v s (one-reordered v r h)

add_swap : (m n k : ℤ) → m +ℤ (n +ℤ k) ≡ n +ℤ (m +ℤ k)
add_swap m n k = omega (arith, ints)

pub sum-reordered : {xs ys : List Datum} → Reordered Datum xs ys → sum_of xs ≡ sum_of ys
sum-reordered done = refl
sum-reordered (keep x r) = ap (λ n. number_of x +ℤ n) (sum-reordered r)
sum-reordered (swap x y xs) = add_swap (number_of x) (number_of y) (sum_of xs)
sum-reordered (both r s) = sum-reordered r ∙ sum-reordered s

-- ---- lists one after another

pub all-append : {A : Type 0} (P : A → Type 0) (xs ys : List A) → AllByRecursion P xs → AllByRecursion P ys → AllByRecursion P (xs ++ ys)
all-append P [] ys h k = k
all-append P (x ∷ xs) ys h k = (h.0, all-append P xs ys h.1 k)

pub one-append_left : (v : Datum) (xs ys : List Datum) → IsOneOf v xs → IsOneOf v (xs ++ ys)
one-append_left v [] ys h = absurd h
one-append_left v (x ∷ xs) ys (inl e) = inl e
one-append_left v (x ∷ xs) ys (inr h) = inr (one-append_left v xs ys h)

pub one-append_right : (v : Datum) (xs ys : List Datum) → IsOneOf v ys → IsOneOf v (xs ++ ys)
one-append_right v [] ys h = h
one-append_right v (x ∷ xs) ys h = inr (one-append_right v xs ys h)

add_assoc : (m n k : ℤ) → m +ℤ (n +ℤ k) ≡ (m +ℤ n) +ℤ k
add_assoc m n k = omega (arith, ints)

add_none : (n : ℤ) → n ≡ pos 0 +ℤ n
add_none n = omega (arith, ints)

pub sum-append : (xs ys : List Datum) → sum_of (xs ++ ys) ≡ sum_of xs +ℤ sum_of ys
sum-append [] ys = add_none (sum_of ys)
sum-append (x ∷ xs) ys = ap (λ n. number_of x +ℤ n) (sum-append xs ys) ∙ add_assoc (number_of x) (sum_of xs) (sum_of ys)

pub all-one : (P : Datum → Type 0) (vs : List Datum) (v : Datum) → AllByRecursion P vs → IsOneOf v vs → P v
all-one P [] v h o = absurd o
all-one P (w ∷ vs) v h (inl e) = subst P e h.0
all-one P (w ∷ vs) v h (inr o) = all-one P vs v h.1 o
