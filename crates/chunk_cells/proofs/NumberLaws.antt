-- Rising lists of chunk numbers, cut in two.
use Rattle.std.proofs.lemmas.List.{drop_all, drop_more}
use Rattle.std.proofs.Common.{◌≡◌, ℕ, zero, suc, ◌<◌, Bool, true, false, ◌||◌, List, [], ◌∷◌, ◌++◌, length, take, drop, get_or, refl, sym, ap, ◌∙◌, subst, arith, ◌≤◌}
use Rattle.std.specs.List.{AllByRecursion}
use Rattle.std.specs.Ordering.{is_eq, is_lt}
use Rattle.std.specs.Cmp.{IsTotalOrder}
use Rattle.std.specs.declared.cmp.Ordering.{Ordering}
use Rattle.std.specs.declared.cmp.Ordering.TheVariants.{Less, Equal, Greater}
use Rattle.std.proofs.lemmas.Cmp.{lists_total, nat_cmp_total}
use Rattle.arrayvec.specs.ArrayVec.{ArrayVec}
use Rattle.array_geom.specs.Geometry.{ChunkNumber}
use Rattle.array_geom.specs.Link.{number_order, NumbersRise, is_listed}
use Rattle.array_geom.proofs.NumberLaws.{same_number, is_equal}
use Rattle.chunk_cells.specs.Inner.Numbers.{numbers_in, AreBefore, AreFrom, starts_with}

pub number_order_total : IsTotalOrder number_order
number_order_total = lists_total nat_cmp_total

pub is_less : (t : Ordering) → is_lt t ≡ true → t ≡ Less
is_less Less e = refl
is_less Equal e = cc
is_less Greater e = cc

-- what holds of each number holds of the one at a place
pub number_at : (P : ChunkNumber → Type 0) (xs : List (ArrayVec ℕ)) (i : ℕ) (y : ArrayVec ℕ) → AllByRecursion P (numbers_in xs) → i < length xs → y ≡ get_or xs i y → P y.items
number_at P [] i y a l e = absurd (omega arith)
number_at P (x ∷ xs) zero y a l e = subst (λ (z : ArrayVec ℕ). P z.items) (sym e) a.0
number_at P (x ∷ xs) (suc i) y a l e = number_at P xs i y a.1 (omega arith) e

pub before_upto : (xs : List (ArrayVec ℕ)) (i : ℕ) (y : ArrayVec ℕ) (k : ChunkNumber) → NumbersRise (numbers_in xs) → i < length xs → y ≡ get_or xs i y → number_order y.items k ≡ Less → AreBefore k (take (suc i) xs)
before_upto [] i y k r l e h = absurd (omega arith)
before_upto (x ∷ xs) zero y k r l e h = (ap (λ (z : ArrayVec ℕ). number_order z.items k) (sym e) ∙ h, tt)
before_upto (x ∷ xs) (suc i) y k r l e h =
    (number_order_total.trans x.items y.items k (number_at (λ (later : ChunkNumber). number_order x.items later ≡ Less) xs i y r.0 (omega arith) e) h, before_upto xs i y k r.1 (omega arith) e h)

not_less_later : (x z k : ChunkNumber) → number_order x z ≡ Less → is_lt (number_order x k) ≡ false → is_lt (number_order z k) ≡ false
not_less_later x z k l h = cases (number_order z k) refl
  where
    cases : (t : Ordering) → number_order z k ≡ t → is_lt t ≡ false
    cases Equal e = refl
    cases Greater e = refl
    cases Less e =
        let f : number_order x k ≡ Less = number_order_total.trans x z k l e in
        sym (ap is_lt f) ∙ h

all_from : (x k : ChunkNumber) (xs : List (ArrayVec ℕ)) → AllByRecursion (λ later. number_order x later ≡ Less) (numbers_in xs) → is_lt (number_order x k) ≡ false → AreFrom k xs
all_from x k [] a h = tt
all_from x k (y ∷ ys) a h = (not_less_later x y.items k a.0 h, all_from x k ys a.1 h)

pub from_at : (xs : List (ArrayVec ℕ)) (i : ℕ) (y : ArrayVec ℕ) (k : ChunkNumber) → NumbersRise (numbers_in xs) → i < length xs → y ≡ get_or xs i y → is_lt (number_order y.items k) ≡ false → AreFrom k (drop i xs)
from_at [] i y k r l e h = absurd (omega arith)
from_at (x ∷ xs) zero y k r l e h =
    let f : is_lt (number_order x.items k) ≡ false = ap (λ (z : ArrayVec ℕ). is_lt (number_order z.items k)) (sym e) ∙ h in
    (f, all_from x.items k xs r.0 f)
from_at (x ∷ xs) (suc i) y k r l e h = from_at xs i y k r.1 (omega arith) e h

-- ---- a number put at the end

pub all_append : (P : ChunkNumber → Type 0) (xs ys : List (ArrayVec ℕ)) → AllByRecursion P (numbers_in xs) → AllByRecursion P (numbers_in ys) → AllByRecursion P (numbers_in (xs ++ ys))
all_append P [] ys a b = b
all_append P (x ∷ xs) ys a b = (a.0, all_append P xs ys a.1 b)

pub all_take : (P : ChunkNumber → Type 0) (i : ℕ) (xs : List (ArrayVec ℕ)) → AllByRecursion P (numbers_in xs) → AllByRecursion P (numbers_in (take i xs))
all_take P zero xs a = tt
all_take P (suc i) [] a = tt
all_take P (suc i) (x ∷ xs) a = (a.0, all_take P i xs a.1)

pub all_drop : (P : ChunkNumber → Type 0) (i : ℕ) (xs : List (ArrayVec ℕ)) → AllByRecursion P (numbers_in xs) → AllByRecursion P (numbers_in (drop i xs))
all_drop P zero xs a = a
all_drop P (suc i) [] a = tt
all_drop P (suc i) (x ∷ xs) a = all_drop P i xs a.1

later_too : (n m : ChunkNumber) (ys : List (ArrayVec ℕ)) → number_order n m ≡ Less → AllByRecursion (λ later. number_order m later ≡ Less) (numbers_in ys) → AllByRecursion (λ later. number_order n later ≡ Less) (numbers_in ys)
later_too n m [] l a = tt
later_too n m (y ∷ ys) l a = (number_order_total.trans n m y.items l a.0, later_too n m ys l a.1)

swap_or : (p q r : Bool) → (p || (q || r)) ≡ (q || (p || r))
swap_or true true r = refl
swap_or true false r = refl
swap_or false q r = refl

pub listed_end : (k : ChunkNumber) (n : ArrayVec ℕ) (xs : List (ArrayVec ℕ)) → is_listed k (numbers_in (xs ++ n ∷ [])) ≡ (is_eq (number_order n.items k) || is_listed k (numbers_in xs))
listed_end k n [] = refl
listed_end k n (x ∷ xs) = ap (λ (b : Bool). is_eq (number_order x.items k) || b) (listed_end k n xs) ∙ swap_or (is_eq (number_order x.items k)) (is_eq (number_order n.items k)) (is_listed k (numbers_in xs))

-- a number that is listed already
pub absorbed : (p q : Bool) → (p || q) ≡ (p || (p || q))
absorbed true q = refl
absorbed false q = refl

swapped : (p q r : Bool) → q ≡ (r || q) → (p || q) ≡ (r || (p || q))
swapped p q r e = ap (λ (b : Bool). p || b) e ∙ swap_or p r q

pub listed_again : (k : ChunkNumber) (n : ArrayVec ℕ) (i : ℕ) (xs : List (ArrayVec ℕ)) → starts_with n.items (drop i xs) ≡ true → is_listed k (numbers_in xs) ≡ (is_eq (number_order n.items k) || is_listed k (numbers_in xs))
listed_again k n zero [] s = cc
listed_again k n zero (x ∷ xs) s =
    let same : x.items ≡ n.items = same_number x.items n.items (is_equal (number_order x.items n.items) s) in
    absorbed (is_eq (number_order x.items k)) (is_listed k (numbers_in xs))
    ∙ ap (λ (z : ChunkNumber). is_eq (number_order z k) || (is_eq (number_order x.items k) || is_listed k (numbers_in xs))) same
listed_again k n (suc i) [] s = cc
listed_again k n (suc i) (x ∷ xs) s = swapped (is_eq (number_order x.items k)) (is_listed k (numbers_in xs)) (is_eq (number_order n.items k)) (listed_again k n i xs s)

-- ---- numbers after one

pub after_from : (xs : List (ArrayVec ℕ)) (i : ℕ) (y : ArrayVec ℕ) (k : ChunkNumber) → NumbersRise (numbers_in xs) → i < length xs → y ≡ get_or xs i y → number_order k y.items ≡ Less → AllByRecursion (λ n. number_order k n ≡ Less) (numbers_in (drop i xs))
after_from [] i y k r l e h = absurd (omega arith)
after_from (x ∷ xs) zero y k r l e h =
    let f : number_order k x.items ≡ Less = ap (λ (z : ArrayVec ℕ). number_order k z.items) (sym e) ∙ h in
    (f, later_too k x.items xs f r.0)
after_from (x ∷ xs) (suc i) y k r l e h = after_from xs i y k r.1 (omega arith) e h

pub rise_from : (xs : List (ArrayVec ℕ)) (i : ℕ) (y : ArrayVec ℕ) → NumbersRise (numbers_in xs) → i < length xs → y ≡ get_or xs i y → NumbersRise (numbers_in (y ∷ drop (suc i) xs))
rise_from [] i y r l e = absurd (omega arith)
rise_from (x ∷ xs) zero y r l e = subst (λ (z : ArrayVec ℕ). NumbersRise (numbers_in (z ∷ xs))) (sym e) r
rise_from (x ∷ xs) (suc i) y r l e = rise_from xs i y r.1 (omega arith) e

-- ---- the number at a place

pub none_starts : (k : ChunkNumber) (listed : List (ArrayVec ℕ)) (at : ℕ) → length listed ≤ at → false ≡ starts_with k (drop at listed)
none_starts k listed at past = sym (ap (starts_with k) (drop_all at listed past))

pub found_starts : (k : ChunkNumber) (listed : List (ArrayVec ℕ)) (at : ℕ) (found : ArrayVec ℕ) → at < length listed → found ≡ get_or listed at found
    → is_eq (number_order found.items k) ≡ starts_with k (drop at listed)
found_starts k listed at found low is = ap (λ (n : ArrayVec ℕ). is_eq (number_order n.items k)) is ∙ sym (ap (starts_with k) (drop_more listed at found low))
