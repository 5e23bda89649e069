-- Cells that are spread over blocks.
use Rattle.std.proofs.Common.{◌≡◌, ℕ, zero, suc, ◌+◌, ◌-◌, ◌*◌, ◌/◌, ◌<◌, ◌≤◌, ℤ, pos, ◌+ℤ◌, ◌-ℤ◌, ◌≤ℤ◌, ◌<ℤ◌, Bool, true, false, cond, ◌&&◌, ◌||◌, List, [], ◌∷◌, ◌++◌, map, length, Option, Some, refl, sym, ap, ◌∙◌, subst, arith}
use Rattle.std.proofs.lemmas.Int.{ints}
use Rattle.std.proofs.Math.Nat.{div-mul-le_self, lt-div-mul-add}
use Rattle.std.specs.List.{AllByRecursion, flat_map, list_any}
use Rattle.std.specs.Ordering.{int_cmp, is_eq, ordering_then}
use Rattle.std.specs.Prelude.{int_le, unsigned_abs}
use Rattle.std.specs.declared.cmp.Ordering.{Ordering}
use Rattle.std.specs.declared.cmp.Ordering.TheVariants.{Less, Equal, Greater}
use Rattle.cell_values.specs.declared.datum.Cell.{Cell}
use Rattle.cell_values.specs.declared.datum.Row.{Row}
use Rattle.cell_values.specs.declared.schema.Bounds.{Bounds}
use Rattle.cell_values.specs.declared.schema.Dimension.{Dimension}
use Rattle.array_rows.specs.Boxes.{bounds_of, by_pairs, is_between, is_inside}
use Rattle.array_rows.specs.Rows.{Coordinate, row_major, cell_at, placed}
use Rattle.array_rows.proofs.RowsLemmas.{row_major_exact, same_coordinate}
use Rattle.array_rows.proofs.RowSets.{IsRising-in_order, cell_at-in_order}
use Rattle.array_geom.proofs.NumberLaws.{is_equal}
use Rattle.array_geom.proofs.PlaceLaws.{above, quotient_of}
use Rattle.array_geom.proofs.TestLaws.{and_both, and_parts, le_test, le_from_test}
use Rattle.logical_plan.specs.Meaning.{count_from, how_many}
use Rattle.logical_plan.proofs.BuiltRows.{all-flat_map, all-follows, all-map}
use Rattle.shape_rows.specs.Laws.{AllEnlarge, XgridCells}
use Rattle.shape_rows.specs.Pulls.{IsPulled}
use Rattle.logical_plan.specs.ShapeSchemas.{enlarged, length_of}
use Rattle.logical_plan.specs.Shapes.{block_of, blocks_back, first_place, last_place, place_of, places_between, places_of, spread_over, xgrid_rows}
use Rattle.shape_rows.proofs.PullLaws.{all_in_order}

-- ---- tests that agree

pub tests_alike : (a b : Bool) → (a ≡ true → b ≡ true) → (b ≡ true → a ≡ true) → a ≡ b
tests_alike true true f g = refl
tests_alike false false f g = refl
tests_alike true false f g = let e : false ≡ true = f refl in cc
tests_alike false true f g = let e : false ≡ true = g refl in cc

-- ---- whether a coordinate is among others

abbrev is_at : Coordinate → Coordinate → Bool
is_at y c = is_eq (row_major c y)

abbrev is_among : Coordinate → List Coordinate → Bool
is_among y cs = list_any (is_at y) cs

any_append : {A : Type 0} (p : A → Bool) (xs ys : List A) → list_any p (xs ++ ys) ≡ (list_any p xs || list_any p ys)
any_append p [] ys = refl
any_append p (x ∷ xs) ys = ap (λ (b : Bool). p x || b) (any_append p xs ys) ∙ both (p x) (list_any p xs) (list_any p ys)
  where
    both : (a b c : Bool) → (a || (b || c)) ≡ ((a || b) || c)
    both true b c = refl
    both false b c = refl

then_equal : (o r : Ordering) → is_eq (ordering_then o r) ≡ (is_eq o && is_eq r)
then_equal Less r = refl
then_equal Equal r = refl
then_equal Greater r = refl

among_first : (x n : ℤ) (y : Coordinate) (cs : List Coordinate) → is_among (n ∷ y) (map (λ c. x ∷ c) cs) ≡ (is_eq (int_cmp x n) && is_among y cs)
among_first x n y [] = none (is_eq (int_cmp x n))
  where
    none : (a : Bool) → false ≡ (a && false)
    none true = refl
    none false = refl
among_first x n y (c ∷ cs) =
    (λ i. then_equal (int_cmp x n) (row_major c y) i || among_first x n y cs i) ∙ out (is_eq (int_cmp x n)) (is_at y c) (is_among y cs)
  where
    out : (a b c : Bool) → ((a && b) || (a && c)) ≡ (a && (b || c))
    out true b c = refl
    out false b c = refl

abbrev is_number : ℤ → List ℤ → Bool
is_number n xs = list_any (λ x. is_eq (int_cmp x n)) xs

among_all : (n : ℤ) (y : Coordinate) (cs : List Coordinate) (xs : List ℤ) → is_among (n ∷ y) (flat_map (λ x. map (λ c. x ∷ c) cs) xs) ≡ (is_number n xs && is_among y cs)
among_all n y cs [] = refl
among_all n y cs (x ∷ xs) =
    any_append (is_at (n ∷ y)) (map (λ c. x ∷ c) cs) (flat_map (λ z. map (λ c. z ∷ c) cs) xs)
    ∙ (λ i. among_first x n y cs i || among_all n y cs xs i)
    ∙ out (is_eq (int_cmp x n)) (is_number n xs) (is_among y cs)
  where
    out : (a b c : Bool) → ((a && c) || (b && c)) ≡ ((a || b) && c)
    out true b true = refl
    out true true false = refl
    out true false false = refl
    out false b c = refl

none_among : (cs : List Coordinate) (xs : List ℤ) → is_among [] (flat_map (λ x. map (λ c. x ∷ c) cs) xs) ≡ false
none_among cs [] = refl
none_among cs (x ∷ xs) = any_append (is_at []) (map (λ c. x ∷ c) cs) (flat_map (λ z. map (λ c. z ∷ c) cs) xs) ∙ (λ i. one cs i || none_among cs xs i)
  where
    one : (ds : List Coordinate) → is_among [] (map (λ c. x ∷ c) ds) ≡ false
    one [] = refl
    one (d ∷ ds) = one ds

equal_test : (x n : ℤ) → is_eq (int_cmp x n) ≡ true → x ≡ n
equal_test x n e = grind (arith, ints)

equal_is : (x n : ℤ) → x ≡ n → is_eq (int_cmp x n) ≡ true
equal_is x n e = grind (arith, ints)

or_parts : (a b : Bool) (P : Type 0) → (a ≡ true → P) → (b ≡ true → P) → (a || b) ≡ true → P
or_parts true b P f g e = f refl
or_parts false b P f g e = g e

or_left : (a b : Bool) → a ≡ true → (a || b) ≡ true
or_left true b e = refl
or_left false b e = cc

or_right : (a b : Bool) → b ≡ true → (a || b) ≡ true
or_right true b e = refl
or_right false b e = e

record Counted (l n : ℤ) (count : ℕ) : Type 0 where
  low : l ≤ℤ n
  high : n <ℤ (l +ℤ pos count)

counted : (n l : ℤ) (count : ℕ) → is_number n (count_from l count) ≡ true → Counted l n count
counted n l zero e = absurd cc
counted n l (suc count) e =
    or_parts (is_eq (int_cmp l n)) (is_number n (count_from (l +ℤ pos 1) count)) (Counted l n (suc count))
    (λ f. let same : l ≡ n = equal_test l n f in record { low = omega (arith, ints); high = omega (arith, ints) })
    (λ f. let h = counted n (l +ℤ pos 1) count f in let low = h.low in let high = h.high in record { low = omega (arith, ints); high = omega (arith, ints) }) e

is_counted : (n l : ℤ) (count : ℕ) → l ≤ℤ n → n <ℤ (l +ℤ pos count) → is_number n (count_from l count) ≡ true
is_counted n l zero low high = absurd (omega (arith, ints))
is_counted n l (suc count) low high = cases (is_eq (int_cmp l n)) refl (λ more. is_counted n (l +ℤ pos 1) count more (omega (arith, ints)))
  where
    past : (a b : ℤ) → a ≤ℤ b → is_eq (int_cmp a b) ≡ false → (a +ℤ pos 1) ≤ℤ b
    past a b h f = grind (arith, ints)

    cases : (b : Bool) → is_eq (int_cmp l n) ≡ b → ((l +ℤ pos 1) ≤ℤ n → is_number n (count_from (l +ℤ pos 1) count) ≡ true) → (is_eq (int_cmp l n) || is_number n (count_from (l +ℤ pos 1) count)) ≡ true
    cases true e rest = or_left (is_eq (int_cmp l n)) (is_number n (count_from (l +ℤ pos 1) count)) e
    cases false e rest = or_right (is_eq (int_cmp l n)) (is_number n (count_from (l +ℤ pos 1) count)) (rest (past l n low e))

many : (l h : ℤ) → l ≤ℤ h → (l +ℤ pos (how_many l h)) ≡ (h +ℤ pos 1)
many l h e = ap (λ (b : Bool). l +ℤ pos (cond b (unsigned_abs (h -ℤ l) + 1) 0)) (le_test l h e) ∙ omega (arith, ints)

none_many : (l h : ℤ) → int_le l h ≡ false → how_many l h ≡ 0
none_many l h e = ap (λ (b : Bool). cond b (unsigned_abs (h -ℤ l) + 1) 0) e

number_between : (l h n : ℤ) → is_number n (count_from l (how_many l h)) ≡ (int_le l n && int_le n h)
number_between l h n = tests_alike _ _ there (λ e. let p = and_parts (int_le l n) (int_le n h) e in here (le_from_test l n p.0) (le_from_test n h p.1))
  where
    here : l ≤ℤ n → n ≤ℤ h → is_number n (count_from l (how_many l h)) ≡ true
    here low high = let e = many l h (omega (arith, ints)) in is_counted n l (how_many l h) low (omega (arith, ints))

    there : is_number n (count_from l (how_many l h)) ≡ true → (int_le l n && int_le n h) ≡ true
    there e = cases (int_le l h) refl
      where
        cases : (b : Bool) → int_le l h ≡ b → (int_le l n && int_le n h) ≡ true
        cases true f = let c = counted n l (how_many l h) e in let low = c.low in let high = c.high in let m = many l h (le_from_test l h f) in
            and_both (int_le l n) (int_le n h) (le_test l n low) (le_test n h (omega (arith, ints)))
        cases false f = let none : is_number n (count_from l 0) ≡ true = subst (λ (k : ℕ). is_number n (count_from l k) ≡ true) (none_many l h f) e in absurd cc

among_between : (lo hi y : Coordinate) → length lo ≡ length hi → is_among y (places_between lo hi) ≡ is_between lo hi y
among_between [] [] [] s = refl
among_between [] [] (n ∷ y) s = refl
among_between [] (h ∷ hi) y s = absurd (omega (arith, s))
among_between (l ∷ lo) [] y s = absurd (omega (arith, s))
among_between (l ∷ lo) (h ∷ hi) [] s = none_among (places_between lo hi) (count_from l (how_many l h))
among_between (l ∷ lo) (h ∷ hi) (n ∷ y) s =
    among_all n y (places_between lo hi) (count_from l (how_many l h)) ∙ (λ i. number_between l h n i && among_between lo hi y (omega (arith, s)) i)

-- ---- a cell over coordinates

spread_cell : (cell : Cell) (cs : List Coordinate) (rest : List Row) (y : Coordinate) → cell_at (spread_over cell cs ++ rest) y ≡ cond (is_among y cs) (Some cell) (cell_at rest y)
spread_cell cell [] rest y = refl
spread_cell cell (c ∷ cs) rest y = ap (cond (is_at y c) (Some cell)) (spread_cell cell cs rest y) ∙ both (is_at y c) (is_among y cs) (cell_at rest y)
  where
    both : (a b : Bool) (o : Option Cell) → cond a (Some cell) (cond b (Some cell) o) ≡ cond (a || b) (Some cell) o
    both true b o = refl
    both false b o = refl

-- cells over boxes: at a place the first whose box has it
pub spread_cells : (box : Coordinate → Bounds) (from : Coordinate) (y : Coordinate) (rows : List Row) → AllByRecursion (λ row. length (box row.at.items).lo.items ≡ length (box row.at.items).hi.items) rows
    → AllByRecursion (λ row. is_inside (box row.at.items) y ≡ is_eq (row_major row.at.items from)) rows → cell_at (flat_map (λ row. spread_over row.cell (places_of (box row.at.items))) rows) y ≡ cell_at rows from
spread_cells box from y [] s a = refl
spread_cells box from y (row ∷ rows) s a =
    spread_cell row.cell (places_of (box row.at.items)) (flat_map (λ r. spread_over r.cell (places_of (box r.at.items))) rows) y
    ∙ (λ i. cond (among_between (box row.at.items).lo.items (box row.at.items).hi.items y s.0 i) (Some row.cell) (spread_cells box from y rows s.1 a.1 i))
    ∙ ap (λ (b : Bool). cond b (Some row.cell) (cell_at rows from)) a.0

-- ---- blocks

in_block : (lo x y : ℤ) (size : ℕ) → 0 < size → lo ≤ℤ x → lo ≤ℤ y → (lo +ℤ pos (unsigned_abs (x -ℤ lo) * size)) ≤ℤ y → y ≤ℤ (lo +ℤ pos (unsigned_abs (x -ℤ lo) * size + (size - 1))) → (lo +ℤ pos (unsigned_abs (y -ℤ lo) / size)) ≡ x
in_block lo x y size p a b low high =
    let n : ℕ = unsigned_abs (y -ℤ lo) in
    let q : ℕ = unsigned_abs (x -ℤ lo) in
    let first : q * size ≤ n = omega (arith, ints) in
    let last : n < q * size + size = omega (arith, ints) in
    let same : n / size ≡ q = quotient_of n q size first last in
    ap (λ (k : ℕ). lo +ℤ pos k) same ∙ omega (arith, ints)

first_of_block : (lo y : ℤ) (size : ℕ) → 0 < size → lo ≤ℤ y → (lo +ℤ pos (unsigned_abs ((lo +ℤ pos (unsigned_abs (y -ℤ lo) / size)) -ℤ lo) * size)) ≤ℤ y
first_of_block lo y size p h =
    let q : ℕ = unsigned_abs (y -ℤ lo) / size in
    let same : unsigned_abs ((lo +ℤ pos q) -ℤ lo) ≡ q = omega (arith, ints) in
    let m = div-mul-le_self (unsigned_abs (y -ℤ lo)) size in
    let e = above lo y h in
    subst (λ (k : ℕ). (lo +ℤ pos (k * size)) ≤ℤ y) (sym same) (omega (arith, ints, e, m))

last_of_block : (lo y : ℤ) (size : ℕ) → 0 < size → lo ≤ℤ y → y ≤ℤ (lo +ℤ pos (unsigned_abs ((lo +ℤ pos (unsigned_abs (y -ℤ lo) / size)) -ℤ lo) * size + (size - 1)))
last_of_block lo y size p h =
    let q : ℕ = unsigned_abs (y -ℤ lo) / size in
    let same : unsigned_abs ((lo +ℤ pos q) -ℤ lo) ≡ q = omega (arith, ints) in
    let m : unsigned_abs (y -ℤ lo) < q * size + size = lt-div-mul-add p in
    let e = above lo y h in
    subst (λ (k : ℕ). y ≤ℤ (lo +ℤ pos (k * size + (size - 1)))) (sym same) (omega (arith, ints, e, m))

-- within bounds a place lies in the block of the one from which it comes, and of no other
pub in_its_block : (dims : List Dimension) (sizes : List ℕ) (c y : Coordinate) → AllEnlarge dims sizes → is_inside (bounds_of dims) c ≡ true → is_inside (bounds_of (by_pairs enlarged dims sizes)) y ≡ true
    → is_inside (block_of dims sizes c) y ≡ true → c ≡ blocks_back dims sizes y
in_its_block [] [] [] [] en e f g = refl
in_its_block [] [] [] (m ∷ y) en e f g = absurd cc
in_its_block [] [] (n ∷ c) y en e f g = absurd cc
in_its_block [] (size ∷ sizes) c y en e f g = absurd en
in_its_block (d ∷ dims) [] c y en e f g = absurd en
in_its_block (d ∷ dims) (size ∷ sizes) [] y en e f g = absurd cc
in_its_block (d ∷ dims) (size ∷ sizes) (n ∷ c) [] en e f g = absurd cc
in_its_block (d ∷ dims) (size ∷ sizes) (n ∷ c) (m ∷ y) en e f g =
    let p = and_parts (int_le d.lo n && int_le n d.hi) (is_inside (bounds_of dims) c) e in
    let q = and_parts (int_le d.lo n) (int_le n d.hi) p.0 in
    let r = and_parts (int_le d.lo m && int_le m (enlarged d size).hi) (is_inside (bounds_of (by_pairs enlarged dims sizes)) y) f in
    let t = and_parts (int_le d.lo m) (int_le m (enlarged d size).hi) r.0 in
    let u = and_parts (int_le (first_place d size n) m && int_le m (last_place d size n)) (is_inside (block_of dims sizes c) y) g in
    let v = and_parts (int_le (first_place d size n) m) (int_le m (last_place d size n)) u.0 in
    let one = in_block d.lo n m size en.0.0 (le_from_test d.lo n q.0) (le_from_test d.lo m t.0) (le_from_test (first_place d size n) m v.0) (le_from_test m (last_place d size n) v.1) in
    let rest = in_its_block dims sizes c y en.1 p.1 r.1 u.1 in
    λ i. sym one i ∷ rest i

pub back_in_block : (dims : List Dimension) (sizes : List ℕ) (y : Coordinate) → AllEnlarge dims sizes → is_inside (bounds_of (by_pairs enlarged dims sizes)) y ≡ true → is_inside (block_of dims sizes (blocks_back dims sizes y)) y ≡ true
back_in_block [] [] [] en f = refl
back_in_block [] [] (m ∷ y) en f = absurd cc
back_in_block [] (size ∷ sizes) y en f = absurd en
back_in_block (d ∷ dims) [] y en f = absurd en
back_in_block (d ∷ dims) (size ∷ sizes) [] en f = absurd cc
back_in_block (d ∷ dims) (size ∷ sizes) (m ∷ y) en f =
    let r = and_parts (int_le d.lo m && int_le m (enlarged d size).hi) (is_inside (bounds_of (by_pairs enlarged dims sizes)) y) f in
    let t = and_parts (int_le d.lo m) (int_le m (enlarged d size).hi) r.0 in
    let low = le_from_test d.lo m t.0 in
    and_both _ _ (and_both _ _ (le_test (first_place d size (place_of d size m)) m (first_of_block d.lo m size en.0.0 low)) (le_test m (last_place d size (place_of d size m)) (last_of_block d.lo m size en.0.0 low)))
    (back_in_block dims sizes y en.1 r.1)

-- the blocks of places within bounds lie within the new bounds
pub fits_up : (lo hi n : ℤ) (size : ℕ) → 0 < size → lo ≤ℤ n → n ≤ℤ hi → (lo +ℤ pos (unsigned_abs (n -ℤ lo) * size + (size - 1))) ≤ℤ ((lo +ℤ pos ((unsigned_abs (hi -ℤ lo) + 1) * size)) -ℤ pos 1)
fits_up lo hi n size p a b =
    let k : ℕ = unsigned_abs (n -ℤ lo) in
    let l : ℕ = unsigned_abs (hi -ℤ lo) in
    let le : k ≤ l = omega (arith, ints) in
    let grown : k * size + size ≤ (l + 1) * size = grind arith in
    omega (arith, ints, grown)

-- ---- all places of a block

all_numbers : (xs : List ℤ) → AllByRecursion (λ x. is_number x xs ≡ true) xs
all_numbers [] = tt
all_numbers (x ∷ xs) =
    (or_left (is_eq (int_cmp x x)) (is_number x xs) (equal_is x x refl), all-follows (λ y. is_number y xs ≡ true) (λ y. is_number y (x ∷ xs) ≡ true) (λ y e. or_right (is_eq (int_cmp x y)) (is_number y xs) e) xs (all_numbers xs))

pub all_between : (lo hi : Coordinate) → length lo ≡ length hi → AllByRecursion (λ c. is_between lo hi c ≡ true) (places_between lo hi)
all_between [] [] s = (refl, tt)
all_between [] (h ∷ hi) s = absurd (omega (arith, s))
all_between (l ∷ lo) [] s = absurd (omega (arith, s))
all_between (l ∷ lo) (h ∷ hi) s =
    let xs = count_from l (how_many l h) in
    all-flat_map (λ c. is_between (l ∷ lo) (h ∷ hi) c ≡ true) (λ x. map (λ c. x ∷ c) (places_between lo hi)) xs
    (all-follows (λ x. is_number x xs ≡ true) (λ x. AllByRecursion (λ c. is_between (l ∷ lo) (h ∷ hi) c ≡ true) (map (λ c. x ∷ c) (places_between lo hi)))
    (λ x e. all-map (λ c. is_between (l ∷ lo) (h ∷ hi) c ≡ true) (λ c. x ∷ c) (places_between lo hi)
    (all-follows (λ c. is_between lo hi c ≡ true) (λ c. is_between (l ∷ lo) (h ∷ hi) (x ∷ c) ≡ true) (λ c f. and_both (int_le l x && int_le x h) (is_between lo hi c) (sym (number_between l h x) ∙ e) f)
    (places_between lo hi) (all_between lo hi (omega (arith, s))))) xs (all_numbers xs))

pub block_inside : (dims : List Dimension) (sizes : List ℕ) (c y : Coordinate) → AllEnlarge dims sizes → is_inside (bounds_of dims) c ≡ true → is_inside (block_of dims sizes c) y ≡ true → is_inside (bounds_of (by_pairs enlarged dims sizes)) y ≡ true
block_inside [] [] [] y en e g = g
block_inside [] [] (n ∷ c) y en e g = absurd cc
block_inside [] (size ∷ sizes) c y en e g = absurd en
block_inside (d ∷ dims) [] c y en e g = absurd en
block_inside (d ∷ dims) (size ∷ sizes) [] y en e g = absurd cc
block_inside (d ∷ dims) (size ∷ sizes) (n ∷ c) [] en e g = absurd cc
block_inside (d ∷ dims) (size ∷ sizes) (n ∷ c) (m ∷ y) en e g =
    let p = and_parts (int_le d.lo n && int_le n d.hi) (is_inside (bounds_of dims) c) e in
    let q = and_parts (int_le d.lo n) (int_le n d.hi) p.0 in
    let u = and_parts (int_le (first_place d size n) m && int_le m (last_place d size n)) (is_inside (block_of dims sizes c) y) g in
    let v = and_parts (int_le (first_place d size n) m) (int_le m (last_place d size n)) u.0 in
    let up = fits_up d.lo d.hi n size en.0.0 (le_from_test d.lo n q.0) (le_from_test n d.hi q.1) in
    let low = from_low d.lo (unsigned_abs (n -ℤ d.lo) * size) m (le_from_test (first_place d size n) m v.0) in
    let high = up_to m (last_place d size n) ((d.lo +ℤ pos (length_of d * size)) -ℤ pos 1) (enlarged d size).hi (le_from_test m (last_place d size n) v.1) up en.0.2 in
    and_both _ _ (and_both _ _ (le_test d.lo m low) (le_test m (enlarged d size).hi high)) (block_inside dims sizes c y en.1 p.1 u.1)
  where
    from_low : (lo : ℤ) (k : ℕ) (y : ℤ) → (lo +ℤ pos k) ≤ℤ y → lo ≤ℤ y
    from_low lo k y h = omega (arith, ints)

    up_to : (a b c e : ℤ) → a ≤ℤ b → b ≤ℤ c → e ≡ c → a ≤ℤ e
    up_to a b c e f g h = omega (arith, ints)

same_sides : (dims : List Dimension) (sizes : List ℕ) (c : Coordinate) → length (block_of dims sizes c).lo.items ≡ length (block_of dims sizes c).hi.items
same_sides [] sizes c = refl
same_sides (d ∷ dims) [] c = refl
same_sides (d ∷ dims) (size ∷ sizes) [] = refl
same_sides (d ∷ dims) (size ∷ sizes) (n ∷ c) = ap suc (same_sides dims sizes c)

-- ---- rows over parts of blocks

-- cells over what some boxes have of their blocks, at places that those boxes keep
pub xgrid_pulled : (dims : List Dimension) (sizes : List ℕ) (rows : List Row) → AllEnlarge dims sizes → AllByRecursion (λ row. is_inside (bounds_of dims) row.at.items ≡ true) rows
    → IsPulled (bounds_of (by_pairs enlarged dims sizes)) (blocks_back dims sizes) rows (xgrid_rows dims sizes rows)
xgrid_pulled dims sizes rows en a = record {
  rising = IsRising-in_order all;
  in_bounds = all_in_order (λ row. is_inside target row.at.items ≡ true) all
      (all-flat_map (λ row. is_inside target row.at.items ≡ true) (λ row. spread_over row.cell (places_of (block_of dims sizes row.at.items))) rows
      (all-follows (λ row. is_inside (bounds_of dims) row.at.items ≡ true) (λ row. AllByRecursion (λ r. is_inside target r.at.items ≡ true) (spread_over row.cell (places_of (block_of dims sizes row.at.items))))
      (λ row e. all-map (λ r. is_inside target r.at.items ≡ true) (λ c. placed c row.cell) (places_of (block_of dims sizes row.at.items))
      (all-follows (λ c. is_inside (block_of dims sizes row.at.items) c ≡ true) (λ c. is_inside target c ≡ true) (λ c f. block_inside dims sizes row.at.items c en e f)
      (places_of (block_of dims sizes row.at.items)) (all_between (block_of dims sizes row.at.items).lo.items (block_of dims sizes row.at.items).hi.items (same_sides dims sizes row.at.items)))) rows a));
  cells = λ y t. cell_at-in_order all y ∙ spread_cells (block_of dims sizes) (blocks_back dims sizes y) y rows (sides rows) (tests y t rows a);
}
  where
    target : Bounds
    target = bounds_of (by_pairs enlarged dims sizes)

    all : List Row
    all = flat_map (λ row. spread_over row.cell (places_of (block_of dims sizes row.at.items))) rows

    sides : (some : List Row) → AllByRecursion (λ row. length (block_of dims sizes row.at.items).lo.items ≡ length (block_of dims sizes row.at.items).hi.items) some
    sides [] = tt
    sides (row ∷ some) = (same_sides dims sizes row.at.items, sides some)

    test : (y c : Coordinate) → is_inside (bounds_of (by_pairs enlarged dims sizes)) y ≡ true → is_inside (bounds_of dims) c ≡ true → is_inside (block_of dims sizes c) y ≡ is_eq (row_major c (blocks_back dims sizes y))
    test y c t e =
        tests_alike (is_inside (block_of dims sizes c) y) (is_eq (row_major c (blocks_back dims sizes y)))
        (λ f. ap (λ (z : Coordinate). is_eq (row_major c z)) (sym (in_its_block dims sizes c y en e t f)) ∙ ap is_eq (same_coordinate c))
        (λ f. ap (λ (z : Coordinate). is_inside (block_of dims sizes z) y) (row_major_exact c (blocks_back dims sizes y) (is_equal (row_major c (blocks_back dims sizes y)) f)) ∙ back_in_block dims sizes y en t)

    tests : (y : Coordinate) → is_inside (bounds_of (by_pairs enlarged dims sizes)) y ≡ true → (some : List Row) → AllByRecursion (λ row. is_inside (bounds_of dims) row.at.items ≡ true) some
        → AllByRecursion (λ row. is_inside (block_of dims sizes row.at.items) y ≡ is_eq (row_major row.at.items (blocks_back dims sizes y))) some
    tests y t [] b = tt
    tests y t (row ∷ some) b = (test y row.at.items t b.0, tests y t some b.1)

pub xgrid_cells : XgridCells
xgrid_cells dims sizes rows en are = xgrid_pulled dims sizes rows en are.in_bounds
