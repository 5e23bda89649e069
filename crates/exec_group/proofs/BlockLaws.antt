-- Blocks lie within the bounds of their schemas.
use Rattle.std.proofs.Common.{◌≡◌, ℕ, zero, suc, ◌/◌, ◌≤◌, ℤ, ◌≤ℤ◌, ◌-ℤ◌, unsigned_abs, int_le, ◌&&◌, true, IsTrue, List, [], ◌∷◌, map, refl, sym, ap, subst, arith}
use Rattle.std.specs.Int.{w64, saturate_signed}
use Rattle.std.specs.List.{AllByRecursion}
use Rattle.std.proofs.Math.Nat.{div-mul-le_self}
use Rattle.std.proofs.lemmas.Bool.{false≢true}
use Rattle.std.proofs.lemmas.Int.{ints}
use Rattle.std.proofs.lemmas.Nat.{le-div}
use Rattle.cell_values.specs.declared.datum.Row.{Row}
use Rattle.cell_values.specs.declared.schema.Dimension.{Dimension}
use Rattle.cell_values.specs.declared.schema.Schema.{Schema}
use Rattle.array_rows.specs.Arrays.{AreRowsOf}
use Rattle.array_rows.specs.Boxes.{is_between, is_inside, bounds_of, by_pairs}
use Rattle.array_rows.specs.Rows.{Coordinate}
use Rattle.array_geom.specs.Inner.Ranges.{IsNear, AreNear}
use Rattle.array_geom.proofs.NearLemmas.{valid_placed}
use Rattle.array_geom.proofs.TestLaws.{and_parts, le_test, le_from_test}
use Rattle.logical_plan.specs.declared.parts.Aggregate.{Aggregate}
use Rattle.logical_plan.specs.Groups.{block}
use Rattle.logical_plan.specs.PlanSchema.{in_blocks, regrid_schema}
use Rattle.group_rows.specs.Inner.Keys.{block_at, regrid_sets}
use Rattle.group_rows.specs.Inner.Merging.{IsSetFor}
use Rattle.group_rows.proofs.KeyLaws.{exact_block}
use Rattle.group_rows.proofs.InsideLaws.{all_true, set_fits}

fewer_blocks : (n m size : ℕ) → n ≤ m → n / size ≤ m / size
fewer_blocks n m zero l = grind arith
fewer_blocks n m (suc size) l =
    let fewer = div-mul-le_self n (suc size) in
    le-div (n / suc size) m (suc size) (omega arith) (omega (arith, fewer, l))

block_low : (lo x : ℤ) (size : ℕ) → lo ≤ℤ block lo size x
block_low lo x size = omega (arith, ints)

block_high : (lo x hi : ℤ) (size : ℕ) → lo ≤ℤ x → x ≤ℤ hi → block lo size x ≤ℤ block lo size hi
block_high lo x hi size l h =
    let less : unsigned_abs (x -ℤ lo) ≤ unsigned_abs (hi -ℤ lo) = omega (arith, ints, l, h) in
    let fewer = fewer_blocks (unsigned_abs (x -ℤ lo)) (unsigned_abs (hi -ℤ lo)) size less in
    omega (arith, ints, fewer)

-- the block of a number within a dimension
block_within : (d : Dimension) (size : ℕ) (x : ℤ) → IsNear d → d.lo ≤ℤ x → x ≤ℤ d.hi → int_le (block d.lo size x) (saturate_signed w64 (block d.lo size d.hi)) ≡ true
block_within d size x near l h =
    let high : d.hi ≤ℤ d.hi = omega (arith, ints) in
    subst (λ (z : ℤ). int_le (block d.lo size x) z ≡ true) (sym (exact_block d size d.hi near near.order high)) (le_test (block d.lo size x) (block d.lo size d.hi) (block_high d.lo x d.hi size l h))

block_inside : (dims : List Dimension) (sizes : List ℕ) (c : Coordinate) → AreNear dims → is_between (map (λ d. d.lo) dims) (map (λ d. d.hi) dims) c ≡ true → is_inside (bounds_of (by_pairs in_blocks dims sizes)) (block_at dims sizes c) ≡ true
block_inside [] sizes c near b = refl
block_inside (d ∷ dims) [] c near b = refl
block_inside (d ∷ dims) (size ∷ sizes) [] near b = absurd (false≢true b)
block_inside (d ∷ dims) (size ∷ sizes) (x ∷ c) near b =
    let parts = and_parts (int_le d.lo x && int_le x d.hi) (is_between (map (λ d. d.lo) dims) (map (λ d. d.hi) dims) c) b in
    let first = and_parts (int_le d.lo x) (int_le x d.hi) parts.0 in
    all_true (int_le d.lo (block d.lo size x)) (int_le (block d.lo size x) (saturate_signed w64 (block d.lo size d.hi))) _
    (le_test d.lo (block d.lo size x) (block_low d.lo x size))
    (block_within d size x near.0 (le_from_test d.lo x first.0) (le_from_test x d.hi first.1))
    (block_inside dims sizes c near.1 parts.1)

all_blocked : (schema target : Schema) (sizes : List ℕ) (rows : List Row) → target.dimensions ≡ by_pairs in_blocks schema.dimensions sizes → AreNear schema.dimensions
    → AllByRecursion (λ row. IsTrue (is_inside (bounds_of schema.dimensions) row.at.items)) rows → AllByRecursion (λ row. IsTrue (is_inside (bounds_of target.dimensions) (block_at schema.dimensions sizes row.at.items))) rows
all_blocked schema target sizes [] e near h = tt
all_blocked schema target sizes (row ∷ rows) e near h = (
  subst (λ (dims : List Dimension). IsTrue (is_inside (bounds_of dims) (block_at schema.dimensions sizes row.at.items))) (sym e) (block_inside schema.dimensions sizes row.at.items near h.0),
  all_blocked schema target sizes rows e near h.1,
)

-- each set of blocks lies within its schema
pub regrid_fits : (schema target : Schema) (gs : List Aggregate) (sizes : List ℕ) (rows : List Row) → AreRowsOf schema rows → target ≡ regrid_schema sizes gs schema
    → (c : Coordinate) → IsSetFor schema.attributes target c (regrid_sets schema.dimensions sizes rows c)
regrid_fits schema target gs sizes rows are e c =
    set_fits schema.attributes target (block_at schema.dimensions sizes) rows c
    (all_blocked schema target sizes rows (ap (λ (s : Schema). s.dimensions) e) (valid_placed schema are.valid).near are.are_rows.in_bounds) are.kinds
