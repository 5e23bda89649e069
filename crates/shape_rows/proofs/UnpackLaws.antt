-- Cells numbered one after the other.
use Rattle.std.proofs.Common.{◌≡◌, ℕ, suc, ◌+◌, ◌-◌, ◌≤◌, ◌<◌, ◌^◌, ℤ, pos, negsuc, ◌≤ℤ◌, true, ◌&&◌, List, [], ◌∷◌, ◌++◌, map, length, Result, Ok, Err, refl, ap, ◌∙◌, arith}
use Rattle.std.proofs.lemmas.Int.{ints}
use Rattle.std.specs.List.{AllByRecursion}
use Rattle.std.specs.Ordering.{int_cmp, ordering_then}
use Rattle.std.specs.Prelude.{IfOk, IsTrue, int_le}
use Rattle.std.specs.declared.cmp.Ordering.{Ordering}
use Rattle.std.specs.declared.cmp.Ordering.TheVariants.{Less}
use Rattle.cell_values.specs.declared.datum.Broken.{Broken}
use Rattle.cell_values.specs.declared.datum.Cell.{Cell}
use Rattle.cell_values.specs.declared.datum.Cell.TheVariants.{Full, Doubt}
use Rattle.cell_values.specs.declared.datum.Datum.{Datum}
use Rattle.cell_values.specs.declared.datum.Datum.TheVariants.{Int}
use Rattle.cell_values.specs.declared.datum.Row.{Row}
use Rattle.cell_values.specs.declared.schema.Attribute.{Attribute}
use Rattle.cell_values.specs.declared.schema.Dimension.{Dimension}
use Rattle.cell_values.specs.declared.schema.Schema.{Schema}
use Rattle.cell_values.specs.Cells.{AreOfKinds, IsCellOf}
use Rattle.cell_values.specs.Table.{fits_int64}
use Rattle.array_rows.specs.Boxes.{bounds_of, is_inside, within}
use Rattle.array_rows.specs.Rows.{Coordinate, row_major, IsBefore, IsRising}
use Rattle.array_geom.specs.Inner.Ranges.{AreNear}
use Rattle.array_geom.proofs.NearLemmas.{valid_placed}
use Rattle.array_geom.proofs.TestLaws.{and_both, and_parts, le_test, le_from_test}
use Rattle.logical_plan.specs.Faults.{if_whole}
use Rattle.shape_rows.specs.Laws.{UnpackedPartsAreArrays, UnpacksAreArrays}
use Rattle.logical_plan.specs.ShapeSchemas.{counting, numbers_of, unpack_schema}
use Rattle.array_rows.specs.Arrays.{AreRowsOf}
use Rattle.shape_rows.proofs.PullLaws.{part_is_array}
use Rattle.logical_plan.specs.Shapes.{after_cell, unpacked_from, unpack_rows}

-- what an operator of what is whole keeps
pub if_kept : {A B : Type 0} (P : A → Type 0) (Q : B → Type 0) (f : A → B) → ((x : A) → P x → Q (f x)) → (r : Result A Broken) → IfOk r P → IfOk (if_whole f r) Q
if_kept P Q f h (Ok x) p = h x p
if_kept P Q f h (Err broken) p = tt

-- rows numbered from n on
AreNumbered : ℕ → List Row → Type 0
AreNumbered n [] = Unit {0}
AreNumbered n (row ∷ rows) = (row.at.items ≡ pos n ∷ []) × AreNumbered (n + 1) rows

record Numbered (n count : ℕ) (rows : List Row) : Type 0 where
  each : AreNumbered n rows
  many : length rows ≡ count

numbered : (n : ℕ) (rows : List Row) → IfOk (unpacked_from n rows) (Numbered n (length rows))
unfolding AreNumbered
numbered n [] = record { each = tt; many = refl }
numbered n (row ∷ rows) = cases row.cell (unpacked_from (n + 1) rows) (numbered (n + 1) rows)
  where
    cases : (cell : Cell) (r : Result (List Row) Broken) → IfOk r (Numbered (n + 1) (length rows)) → IfOk (after_cell n row cell r) (Numbered n (suc (length rows)))
    cases (Doubt kind) r h = tt
    cases (Full vs) (Err broken) h = tt
    cases (Full vs) (Ok made) h = record { each = (refl, h.each); many = ap suc h.many }

less : (n m : ℕ) (a b : Coordinate) → a ≡ pos n ∷ [] → b ≡ pos m ∷ [] → n < m → row_major a b ≡ Less
less n m a b e f h = (λ i. row_major (e i) (f i)) ∙ ap (λ (o : Ordering). ordering_then o (row_major [] [])) (below n m h)
  where
    below : (n m : ℕ) → n < m → int_cmp (pos n) (pos m) ≡ Less
    below n m h = grind (arith, ints)

all_before : (n m : ℕ) (a : Coordinate) (rows : List Row) → a ≡ pos n ∷ [] → n < m → AreNumbered m rows → IsBefore a rows
unfolding AreNumbered
all_before n m a [] e h is = tt
all_before n m a (row ∷ rows) e h is = (less n m a row.at.items e is.0 h, all_before n (m + 1) a rows e (omega (arith, h)) is.1)

rises : (n : ℕ) (rows : List Row) → AreNumbered n rows → IsRising rows
unfolding AreNumbered
rises n [] is = tt
rises n (row ∷ rows) is = (all_before n (n + 1) row.at.items rows is.0 (omega arith) is.1, rises (n + 1) rows is.1)

number_inside : (n : ℕ) → n < 2 ^ 62 → (int_le (pos 0) (pos n) && int_le (pos n) (pos 4611686018427387903) && true) ≡ true
number_inside n h = and_both _ _ (and_both _ _ (le_test (pos 0) (pos n) (omega (arith, ints))) (le_test (pos n) (pos 4611686018427387903) (omega (arith, ints, h)))) refl

all_inside : (name : List ℕ) (n : ℕ) (rows : List Row) → AreNumbered n rows → n + length rows ≤ 2 ^ 62 → AllByRecursion (λ row. IsTrue (is_inside (bounds_of (counting name ∷ [])) row.at.items)) rows
unfolding AreNumbered
all_inside name n [] is h = tt
all_inside name n (row ∷ rows) is h =
    (ap (λ (c : Coordinate). is_inside (bounds_of (counting name ∷ [])) c) is.0 ∙ number_inside n (omega (arith, h)), all_inside name (n + 1) rows is.1 (omega (arith, h)))

-- ---- values

fits : (d : Dimension) (x : ℤ) → negsuc (2 ^ 62 - 2) ≤ℤ d.lo → d.hi ≤ℤ pos (2 ^ 62 - 1) → d.lo ≤ℤ x → x ≤ℤ d.hi → fits_int64 x ≡ true
fits d (pos n) a b e f = grind (arith, ints)
fits d (negsuc n) a b e f = grind (arith, ints)

coordinate_values : (dims : List Dimension) (c : Coordinate) (attributes : List Attribute) (vs : List Datum) → AreNear dims → is_inside (bounds_of dims) c ≡ true → AreOfKinds attributes vs → AreOfKinds (map numbers_of dims ++ attributes) (map Int c ++ vs)
coordinate_values [] [] attributes vs near e k = k
coordinate_values [] (x ∷ c) attributes vs near e k = absurd cc
coordinate_values (d ∷ dims) [] attributes vs near e k = absurd cc
coordinate_values (d ∷ dims) (x ∷ c) attributes vs near e k =
    let p = and_parts (int_le d.lo x && int_le x d.hi) (is_inside (bounds_of dims) c) e in
    let q = and_parts (int_le d.lo x) (int_le x d.hi) p.0 in
    (fits d x near.0.low near.0.high (le_from_test d.lo x q.0) (le_from_test x d.hi q.1), coordinate_values dims c attributes vs near.1 p.1 k)

all_cells : (s : Schema) (n : ℕ) (rows : List Row) → AreNear s.dimensions → AllByRecursion (λ row. IsTrue (is_inside (bounds_of s.dimensions) row.at.items)) rows → AllByRecursion (λ row. IsCellOf s.attributes row.cell) rows
    → IfOk (unpacked_from n rows) (AllByRecursion (λ row. IsCellOf (map numbers_of s.dimensions ++ s.attributes) row.cell))
all_cells s n [] near i k = tt
all_cells s n (row ∷ rows) near i k = cases row.cell k.0 (unpacked_from (n + 1) rows) (all_cells s (n + 1) rows near i.1 k.1)
  where
    attributes : List Attribute
    attributes = map numbers_of s.dimensions ++ s.attributes

    cases : (cell : Cell) → IsCellOf s.attributes cell → (r : Result (List Row) Broken) → IfOk r (AllByRecursion (λ row. IsCellOf (map numbers_of s.dimensions ++ s.attributes) row.cell)) → IfOk (after_cell n row cell r) (AllByRecursion (λ row. IsCellOf (map numbers_of s.dimensions ++ s.attributes) row.cell))
    cases (Doubt kind) c r h = tt
    cases (Full vs) c (Err broken) h = tt
    cases (Full vs) c (Ok made) h = (coordinate_values s.dimensions row.at.items s.attributes vs near i.0 c, h)

pub unpacks_are_arrays : UnpacksAreArrays
unpacks_are_arrays name s rows valid are few = cases (unpack_rows rows) (numbered 0 rows) (all_cells s 0 rows (valid_placed s are.valid).near are.are_rows.in_bounds are.kinds)
  where
    cases : (r : Result (List Row) Broken) → IfOk r (Numbered 0 (length rows)) → IfOk r (AllByRecursion (λ row. IsCellOf (map numbers_of s.dimensions ++ s.attributes) row.cell)) → IfOk r (AreRowsOf (unpack_schema name s))
    cases (Err broken) n k = tt
    cases (Ok made) n k =
        let m = n.many in
        record { valid = valid; are_rows = record { rising = rises 0 made n.each; in_bounds = all_inside name 0 made n.each (omega (arith, m, few)) }; kinds = k }

pub unpacked_parts_are_arrays : UnpackedPartsAreArrays
unpacked_parts_are_arrays name s rows valid are = cases (unpack_rows rows) (numbered 0 rows) (all_cells s 0 rows (valid_placed s are.valid).near are.are_rows.in_bounds are.kinds)
  where
    cases : (r : Result (List Row) Broken) → IfOk r (Numbered 0 (length rows)) → IfOk r (AllByRecursion (λ row. IsCellOf (map numbers_of s.dimensions ++ s.attributes) row.cell))
        → IfOk (if_whole (within (bounds_of (unpack_schema name s).dimensions)) r) (AreRowsOf (unpack_schema name s))
    cases (Err broken) n k = tt
    cases (Ok made) n k = part_is_array (unpack_schema name s) made valid (rises 0 made n.each) k
