-- All coordinates of a box: they rise, and lie in the box.
use Rattle.std.proofs.Common.{◌≡◌, ℕ, zero, suc, ◌+◌, ℤ, pos, negsuc, ◌+ℤ◌, ◌-ℤ◌, ◌≤ℤ◌, Bool, true, false, cond, List, [], ◌∷◌, ◌++◌, map, refl, ap, ◌∙◌, arith}
use Rattle.std.specs.Prelude.{◌&&◌, int_le, unsigned_abs}
use Rattle.std.specs.List.{AllByRecursion, flat_map}
use Rattle.std.specs.declared.cmp.Ordering.TheVariants.{Less, Equal}
use Rattle.std.specs.Ordering.{int_cmp, ordering_then}
use Rattle.std.proofs.lemmas.Int.{ints}
use Rattle.cell_values.specs.declared.datum.Cell.{Cell}
use Rattle.cell_values.specs.declared.schema.Dimension.{Dimension}
use Rattle.cell_values.specs.Schemas.{is_bound}
use Rattle.cell_values.specs.Table.{fits_int64}
use Rattle.array_rows.specs.Rows.{Coordinate, row_major, placed, IsRising}
use Rattle.array_rows.specs.Boxes.{is_inside, bounds_of}
use Rattle.logical_plan.specs.Meaning.{count_from, how_many, coordinates}

-- ---- lists

pub all-append : {A : Type 0} (P : A → Type 0) (xs ys : List A) → AllByRecursion P xs → AllByRecursion P ys → AllByRecursion P (xs ++ ys)
all-append P [] ys a b = b
all-append P (x ∷ xs) ys a b = (a.0, all-append P xs ys a.1 b)

pub all-map : {A B : Type 0} (P : B → Type 0) (f : A → B) (xs : List A) → AllByRecursion (λ x. P (f x)) xs → AllByRecursion P (map f xs)
all-map P f [] a = tt
all-map P f (x ∷ xs) a = (a.0, all-map P f xs a.1)

pub all-flat_map : {A B : Type 0} (P : B → Type 0) (f : A → List B) (xs : List A) → AllByRecursion (λ x. AllByRecursion P (f x)) xs → AllByRecursion P (flat_map f xs)
all-flat_map P f [] a = tt
all-flat_map P f (x ∷ xs) a = all-append P (f x) (flat_map f xs) a.0 (all-flat_map P f xs a.1)

pub all-follows : {A : Type 0} (P Q : A → Type 0) → ((x : A) → P x → Q x) → (xs : List A) → AllByRecursion P xs → AllByRecursion Q xs
all-follows P Q h [] a = tt
all-follows P Q h (x ∷ xs) a = (h x a.0, all-follows P Q h xs a.1)

pub all-each : {A : Type 0} (P : A → Type 0) → ((x : A) → P x) → (xs : List A) → AllByRecursion P xs
all-each P h [] = tt
all-each P h (x ∷ xs) = (h x, all-each P h xs)

pub both : (p q : Bool) → (p && q) ≡ true → (p ≡ true) × (q ≡ true)
both true q e = (refl, e)
both false q e = cc

-- ---- the numbers of a range

Rises : List ℤ → Type 0
Rises [] = Unit {0}
Rises (x ∷ xs) = AllByRecursion (λ y. int_cmp x y ≡ Less) xs × Rises xs

next : (x lo : ℤ) → int_cmp x lo ≡ Less → int_cmp x (lo +ℤ pos 1) ≡ Less
next x lo h = grind (arith, ints)

self_next : (lo : ℤ) → int_cmp lo (lo +ℤ pos 1) ≡ Less
self_next lo = grind (arith, ints)

self : (x : ℤ) → int_cmp x x ≡ Equal
self x = grind (arith, ints)

above : (x lo : ℤ) (n : ℕ) → int_cmp x lo ≡ Less → AllByRecursion (λ y. int_cmp x y ≡ Less) (count_from lo n)
above x lo zero h = tt
above x lo (suc n) h = (h, above x (lo +ℤ pos 1) n (next x lo h))

count_rises : (lo : ℤ) (n : ℕ) → Rises (count_from lo n)
unfolding Rises
count_rises lo zero = tt
count_rises lo (suc n) = (above lo (lo +ℤ pos 1) n (self_next lo), count_rises (lo +ℤ pos 1) n)

is_in : ℤ → ℤ → ℤ → Type 0
is_in lo hi x = (int_le lo x ≡ true) × (int_le x hi ≡ true)

le_true : (a b : ℤ) → a ≤ℤ b → int_le a b ≡ true
le_true a b h = grind (arith, ints)

count_in : (l hi lo : ℤ) (n : ℕ) → l ≤ℤ lo → (lo +ℤ pos n) ≤ℤ (hi +ℤ pos 1) → AllByRecursion (is_in l hi) (count_from lo n)
unfolding is_in
count_in l hi lo zero a b = tt
count_in l hi lo (suc n) a b =
    ((le_true l lo a, le_true lo hi (omega (arith, ints, b))), count_in l hi (lo +ℤ pos 1) n (omega (arith, ints, a)) (omega (arith, ints, b)))

range_in : (lo hi : ℤ) → AllByRecursion (is_in lo hi) (count_from lo (how_many lo hi))
range_in lo hi = cases (int_le lo hi) refl
  where
    cases : (t : Bool) → int_le lo hi ≡ t → AllByRecursion (is_in lo hi) (count_from lo (cond t (unsigned_abs (hi -ℤ lo) + 1) 0))
    cases false e = tt
    cases true e = count_in lo hi lo (unsigned_abs (hi -ℤ lo) + 1) (omega (arith, ints)) (grind (arith, ints, e))

-- ---- coordinates

pub AreRising : List Coordinate → Type 0
AreRising [] = Unit {0}
AreRising (c ∷ cs) = AllByRecursion (λ d. row_major c d ≡ Less) cs × AreRising cs

append_rises : (a b : List Coordinate) → AreRising a → AreRising b → AllByRecursion (λ c. AllByRecursion (λ d. row_major c d ≡ Less) b) a → AreRising (a ++ b)
unfolding AreRising
append_rises [] b ra rb h = rb
append_rises (c ∷ a) b ra rb h = (all-append (λ d. row_major c d ≡ Less) a b ra.0 h.0, append_rises a b ra.1 rb h.1)

same_first : (x : ℤ) (c d : Coordinate) → row_major c d ≡ Less → row_major (x ∷ c) (x ∷ d) ≡ Less
same_first x c d l = ap (λ o. ordering_then o (row_major c d)) (self x) ∙ l

less_first : (x y : ℤ) (c d : Coordinate) → int_cmp x y ≡ Less → row_major (x ∷ c) (y ∷ d) ≡ Less
less_first x y c d l = ap (λ o. ordering_then o (row_major c d)) l

map_rises : (x : ℤ) (cs : List Coordinate) → AreRising cs → AreRising (map (λ c. x ∷ c) cs)
unfolding AreRising
map_rises x [] r = tt
map_rises x (c ∷ cs) r =
    (all-map (λ d. row_major (x ∷ c) d ≡ Less) (λ d. x ∷ d) cs (all-follows (λ d. row_major c d ≡ Less) (λ d. row_major (x ∷ c) (x ∷ d) ≡ Less) (λ d l. same_first x c d l) cs r.0), map_rises x cs r.1)

-- a coordinate with a lesser first number comes before all with a greater one
before_all : (x : ℤ) (c : Coordinate) (cs : List Coordinate) (xs : List ℤ) → AllByRecursion (λ y. int_cmp x y ≡ Less) xs
    → AllByRecursion (λ d. row_major (x ∷ c) d ≡ Less) (flat_map (λ y. map (λ d. y ∷ d) cs) xs)
before_all x c cs xs a =
    all-flat_map (λ d. row_major (x ∷ c) d ≡ Less) (λ y. map (λ d. y ∷ d) cs) xs
    (all-follows (λ y. int_cmp x y ≡ Less) (λ y. AllByRecursion (λ d. row_major (x ∷ c) d ≡ Less) (map (λ d. y ∷ d) cs))
    (λ y l. all-map (λ d. row_major (x ∷ c) d ≡ Less) (λ d. y ∷ d) cs (all-each (λ d. row_major (x ∷ c) (y ∷ d) ≡ Less) (λ d. less_first x y c d l) cs)) xs a)

product_rises : (cs : List Coordinate) → AreRising cs → (xs : List ℤ) → Rises xs → AreRising (flat_map (λ x. map (λ c. x ∷ c) cs) xs)
unfolding Rises AreRising
product_rises cs r [] a = tt
product_rises cs r (x ∷ xs) a =
    append_rises (map (λ c. x ∷ c) cs) (flat_map (λ y. map (λ c. y ∷ c) cs) xs) (map_rises x cs r) (product_rises cs r xs a.1)
    (all-map (λ c. AllByRecursion (λ d. row_major c d ≡ Less) (flat_map (λ y. map (λ c. y ∷ c) cs) xs)) (λ c. x ∷ c) cs
    (all-each (λ c. AllByRecursion (λ d. row_major (x ∷ c) d ≡ Less) (flat_map (λ y. map (λ c. y ∷ c) cs) xs)) (λ c. before_all x c cs xs a.0) cs))

pub coordinates_rise : (dims : List Dimension) → AreRising (coordinates dims)
unfolding AreRising
coordinates_rise [] = (tt, tt)
coordinates_rise (d ∷ dims) = product_rises (coordinates dims) (coordinates_rise dims) (count_from d.lo (how_many d.lo d.hi)) (count_rises d.lo (how_many d.lo d.hi))

inside_more : (p q r : Bool) → p ≡ true → q ≡ true → r ≡ true → (p && q && r) ≡ true
inside_more true true true a b c = refl
inside_more false q r a b c = cc
inside_more true false r a b c = cc
inside_more true true false a b c = cc

pub coordinates_inside : (dims : List Dimension) → AllByRecursion (λ c. is_inside (bounds_of dims) c ≡ true) (coordinates dims)
unfolding is_in
coordinates_inside [] = (refl, tt)
coordinates_inside (d ∷ dims) =
    all-flat_map (λ c. is_inside (bounds_of (d ∷ dims)) c ≡ true) (λ x. map (λ c. x ∷ c) (coordinates dims)) (count_from d.lo (how_many d.lo d.hi))
    (all-follows (is_in d.lo d.hi) (λ x. AllByRecursion (λ c. is_inside (bounds_of (d ∷ dims)) c ≡ true) (map (λ c. x ∷ c) (coordinates dims)))
    (λ x i. all-map (λ c. is_inside (bounds_of (d ∷ dims)) c ≡ true) (λ c. x ∷ c) (coordinates dims)
    (all-follows (λ c. is_inside (bounds_of dims) c ≡ true) (λ c. is_inside (bounds_of (d ∷ dims)) (x ∷ c) ≡ true)
    (λ c j. inside_more (int_le d.lo x) (int_le x d.hi) (is_inside (bounds_of dims) c) i.0 i.1 j) (coordinates dims) (coordinates_inside dims)))
    (count_from d.lo (how_many d.lo d.hi)) (range_in d.lo d.hi))

-- a cell at each of rising coordinates
pub rows_rise : (cell : Coordinate → Cell) (cs : List Coordinate) → AreRising cs → IsRising (map (λ c. placed c (cell c)) cs)
unfolding AreRising
rows_rise cell [] r = tt
rows_rise cell (c ∷ cs) r = (all-map (λ row. row_major c row.at.items ≡ Less) (λ d. placed d (cell d)) cs r.0, rows_rise cell cs r.1)

-- ---- coordinates of a valid schema

-- a number between bounds is one of 64 bits
pub between_fits : (lo hi x : ℤ) → is_bound lo ≡ true → is_bound hi ≡ true → int_le lo x ≡ true → int_le x hi ≡ true → fits_int64 x ≡ true
between_fits (pos l) (pos h) (pos n) a b c d = grind (arith, ints)
between_fits (negsuc l) (pos h) (pos n) a b c d = grind (arith, ints)
between_fits (pos l) (negsuc h) (pos n) a b c d = grind (arith, ints)
between_fits (negsuc l) (negsuc h) (pos n) a b c d = grind (arith, ints)
between_fits (pos l) hi (negsuc n) a b c d = grind (arith, ints)
between_fits (negsuc l) hi (negsuc n) a b c d = grind (arith, ints)
