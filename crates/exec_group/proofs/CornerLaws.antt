-- A box that has the lowest and the last coordinate of a grid has all of them.
use Rattle.std.proofs.Common.{◌≡◌, ℕ, ◌+◌, ◌-◌, ◌*◌, ◌/◌, ◌%◌, ◌<◌, ℤ, pos, ◌+ℤ◌, ◌≤ℤ◌, Bool, true, ◌&&◌, List, [], ◌∷◌, length, map, replicate, refl, sym, ap, ◌∙◌, arith}
use Rattle.std.specs.Prelude.{int_le, IfOk, Result, Ok, Err}
use Rattle.std.specs.List.{AllByRecursion}
use Rattle.std.proofs.lemmas.Bool.{false≢true}
use Rattle.std.proofs.lemmas.Int.{ints}
use Rattle.cell_values.specs.declared.memory.Memory.{Memory}
use Rattle.array_rows.specs.Boxes.{is_between}
use Rattle.array_geom.specs.Geometry.{coordinate_in, volume}
use Rattle.array_geom.specs.Inner.Ranges.{AreLengths}
use Rattle.array_geom.proofs.PlaceLaws.{quotient_of, some}
use Rattle.array_geom.proofs.TestLaws.{and_both, and_parts, le_from_test, le_test}

-- ---- the last place

row_of : (p n v : ℕ) → 0 < v → p < n * v → p / v < n
row_of p n v h k = grind arith

whole_again : (p v : ℕ) → 0 < v → p / v * v + p % v ≡ p
whole_again p v h = grind arith

one_row_more : (m v : ℕ) → (m + 1) * v ≡ m * v + v
one_row_more m v = grind arith

below_size : (p v : ℕ) → 0 < v → p % v < v
below_size p v h = omega arith

-- the last place stands at the end of the last row
record IsLast (n v last : ℕ) : Type 0 where
  pub row : last / v + 1 ≡ n
  pub place : last % v + 1 ≡ v

last_in_row : (m v last : ℕ) → 0 < v → last + 1 ≡ m * v + v → (last / v ≡ m) × (last % v + 1 ≡ v)
last_in_row m v last s e =
    let q : last / v ≡ m = quotient_of last m v (omega (arith, e)) (omega (arith, e)) in
    let w : m * v + last % v ≡ last = ap (λ (k : ℕ). k * v + last % v) (sym q) ∙ whole_again last v s in
    (q, omega (arith, e, w))

is_last : (n v last : ℕ) → 0 < n → 0 < v → last + 1 ≡ n * v → IsLast n v last
is_last n v last some_rows s e =
    let m : n - 1 + 1 ≡ n = omega arith in
    let parts = last_in_row (n - 1) v last s (e ∙ ap (λ (k : ℕ). k * v) (sym m) ∙ one_row_more (n - 1) v) in
    record { row = ap (λ (k : ℕ). k + 1) parts.0 ∙ m; place = parts.1 }

-- ---- all places

from_first : (x l : ℤ) (q : ℕ) → x ≤ℤ l → x ≤ℤ (l +ℤ pos q)
from_first x l q a = omega (arith, ints)

to_last : (l h : ℤ) (q r n : ℕ) → q < n → r + 1 ≡ n → (l +ℤ pos r) ≤ℤ h → (l +ℤ pos q) ≤ℤ h
to_last l h q r n a e b = omega (arith, ints)

record IsBetween (lo l hi : ℤ) (more : Bool) : Type 0 where
  pub low : lo ≤ℤ l
  pub high : l ≤ℤ hi
  pub rest : more ≡ true

between : (lo l hi : ℤ) (more : Bool) → (int_le lo l && int_le l hi && more) ≡ true → IsBetween lo l hi more
between lo l hi more e =
    let a = and_parts (int_le lo l && int_le l hi) more e in
    let b = and_parts (int_le lo l) (int_le l hi) a.0 in
    record { low = le_from_test lo l b.0; high = le_from_test l hi b.1; rest = a.1 }

pub has_all : (low : List ℤ) (lengths : List ℕ) (lo hi : List ℤ) (last p : ℕ) → AreLengths lengths → length low ≡ length lengths → last + 1 ≡ volume lengths
    → is_between lo hi low ≡ true → is_between lo hi (coordinate_in low lengths last) ≡ true → p < volume lengths → is_between lo hi (coordinate_in low lengths p) ≡ true
has_all [] [] lo hi last p a e w f t k = t
has_all [] (n ∷ ns) lo hi last p a e w f t k = absurd (omega (arith, e))
has_all (l ∷ low) [] lo hi last p a e w f t k = absurd (omega (arith, e))
has_all (l ∷ low) (n ∷ ns) [] [] last p a e w f t k = absurd (false≢true f)
has_all (l ∷ low) (n ∷ ns) [] (y ∷ hi) last p a e w f t k = absurd (false≢true f)
has_all (l ∷ low) (n ∷ ns) (x ∷ lo) [] last p a e w f t k = absurd (false≢true f)
has_all (l ∷ low) (n ∷ ns) (x ∷ lo) (y ∷ hi) last p a e w f t k =
    let v = volume ns in
    let s = some ns a.1 in
    let first = between x l y (is_between lo hi low) f in
    let end = between x (l +ℤ pos (last / v)) y (is_between lo hi (coordinate_in low ns (last % v))) t in
    let is = is_last n v last a.0 s w in
    and_both _ _ (and_both _ _ (le_test x (l +ℤ pos (p / v)) (from_first x l (p / v) first.low)) (le_test (l +ℤ pos (p / v)) y (to_last l y (p / v) (last / v) n (row_of p n v s k) is.row end.high)))
    (has_all low ns lo hi (last % v) (p % v) a.1 (omega (arith, e)) is.place first.rest end.rest (below_size p v s))

-- ---- lists of tests

all_true : (f : ℕ → Bool) (bound : ℕ) (positions : List ℕ) → AllByRecursion (λ p. p < bound) positions → ((p : ℕ) → p < bound → f p ≡ true) → replicate (length positions) true ≡ map f positions
all_true f bound [] a h = refl
all_true f bound (p ∷ positions) a h = ap (λ (bs : List Bool). true ∷ bs) (all_true f bound positions a.1 h) ∙ ap (λ (b : Bool). b ∷ map f positions) (sym (h p a.0))

pub if_all : (f : ℕ → Bool) (bound : ℕ) (positions : List ℕ) (r : Result (List Bool) Memory) → AllByRecursion (λ p. p < bound) positions → ((p : ℕ) → p < bound → f p ≡ true)
    → IfOk r (λ inside. inside ≡ replicate (length positions) true) → IfOk r (λ inside. inside ≡ map f positions)
if_all f bound positions (Ok inside) a h e = e ∙ all_true f bound positions a h
if_all f bound positions (Err error) a h e = e
