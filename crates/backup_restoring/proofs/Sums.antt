-- Sums over the first of some.
use Rattle.std.proofs.Common.{◌≡◌, ℕ, zero, suc, ◌+◌, ◌<◌, ◌≤◌, List, [], ◌∷◌, ◌++◌, map, length, take, get_or, sym, ◌∙◌, ap, arith}
use Rattle.std.specs.Prelude.{sum_by}
use Rattle.std.proofs.lemmas.List.{take_all}
use Rattle.std.proofs.lemmas.List.Sums.{sum_by-cons, sum_by_push}

-- one more of the first, as something else
pub map_taken : {A B : Type 0} (f : A → B) (xs : List A) (i : ℕ) (x : A) → i < length xs → x ≡ get_or xs i x → map f (take (i + 1) xs) ≡ map f (take i xs) ++ f x ∷ []
map_taken f [] i x low is = absurd (omega (arith, low))
map_taken {B = B} f (y ∷ xs) zero x low is = ap (λ (z : _). f z ∷ []) (sym is)
map_taken {B = B} f (y ∷ xs) (suc i) x low is =
    let more : suc i + 1 ≡ suc (i + 1) = omega arith in
    ap (λ (j : ℕ). map f (take j (y ∷ xs))) more ∙ ap (λ (zs : List B). f y ∷ zs) (map_taken f xs i x (omega (arith, low)) is)

pub map_whole : {A B : Type 0} (f : A → B) (xs : List A) (i : ℕ) → length xs ≤ i → map f (take i xs) ≡ map f xs
map_whole f xs i more = ap (map f) (take_all i xs more)

pub sum_taken : {A B : Type 0} (size : B → ℕ) (f : A → B) (xs : List A) (i : ℕ) (x : A) (old one new : ℕ) → i < length xs → x ≡ get_or xs i x
    → old ≡ sum_by size (map f (take i xs)) → one ≡ size (f x) → new ≡ old + one → new ≡ sum_by size (map f (take (i + 1) xs))
sum_taken size f xs i x old one new low is before here both =
    both ∙ ap (λ (n : ℕ). n + one) before ∙ ap (λ (n : ℕ). sum_by size (map f (take i xs)) + n) here
    ∙ sym (sum_by_push size (map f (take i xs)) (f x)) ∙ ap (sum_by size) (sym (map_taken f xs i x low is))

pub sum_whole : {A B : Type 0} (size : B → ℕ) (f : A → B) (xs : List A) (i : ℕ) → length xs ≤ i → sum_by size (map f (take i xs)) ≡ sum_by size (map f xs)
sum_whole size f xs i more = ap (sum_by size) (map_whole f xs i more)

-- the first of some, and one more, are no more than all
pub sum_part : {A B : Type 0} (size : B → ℕ) (f : A → B) (xs : List A) (i : ℕ) (x : A) → i < length xs → x ≡ get_or xs i x → sum_by size (map f (take i xs)) + size (f x) ≤ sum_by size (map f xs)
sum_part size f [] i x low is = absurd (omega (arith, low))
sum_part size f (y ∷ xs) zero x low is =
    let s = sum_by-cons size (f y) (map f xs) in
    let e : size (f x) ≡ size (f y) = ap (λ (z : _). size (f z)) is in
    omega (arith, s, e)
sum_part size f (y ∷ xs) (suc i) x low is =
    let s = sum_by-cons size (f y) (map f xs) in
    let t = sum_by-cons size (f y) (map f (take i xs)) in
    let later = sum_part size f xs i x (omega (arith, low)) is in
    omega (arith, s, t, later)
