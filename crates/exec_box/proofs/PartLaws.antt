-- Rows in a box, moved so that the box begins at 0, are an array.
use Rattle.std.proofs.Common.{◌≡◌, ◌-◌, ◌≤◌, ◌^◌, ℤ, pos, negsuc, ◌≤ℤ◌, ◌<ℤ◌, ◌-ℤ◌, true, ◌&&◌, List, [], ◌∷◌, map, refl, sym, ap, subst, ◌∙◌, arith, min}
use Rattle.std.proofs.lemmas.Int.{ints, clamps}
use Rattle.std.specs.Cmp.{int_cmp_is, int_ranks}
use Rattle.std.specs.Int.{w64, saturate_signed, int_min, int_max}
use Rattle.std.specs.Ordering.{int_cmp, ordering_then, MatchOrdering}
use Rattle.std.specs.Prelude.{int_le}
use Rattle.std.specs.declared.cmp.Ordering.{Ordering}
use Rattle.std.specs.declared.cmp.Ordering.TheVariants.{Less, Equal, Greater}
use Rattle.cell_values.specs.declared.datum.Row.{Row}
use Rattle.cell_values.specs.declared.schema.Bounds.{Bounds}
use Rattle.cell_values.specs.declared.schema.Dimension.{Dimension}
use Rattle.cell_values.specs.declared.schema.Schema.{Schema}
use Rattle.cell_values.specs.Cells.{IsCellOf}
use Rattle.cell_values.specs.Schemas.{IsValid}
use Rattle.array_rows.specs.Boxes.{is_between, is_inside, by_pairs, meet, moved, bounds_of, within}
use Rattle.array_rows.specs.Rows.{Coordinate, row_major}
use Rattle.array_rows.proofs.RowSets.{IsRising-rows_where}
use Rattle.array_geom.specs.Inner.Ranges.{IsNear, AreNear}
use Rattle.array_geom.proofs.NearLemmas.{valid_placed}
use Rattle.array_geom.proofs.TestLaws.{and_parts, and_both, le_test, le_from_test}
use Rattle.logical_plan.specs.BoxOps.{subarray_rows}
use Rattle.logical_plan.specs.PlanSchema.{subarray_dimensions}
use Rattle.exec_box.specs.Laws.{SubarraysAreArrays}
use Rattle.exec_box.specs.Moves.{AreShort, IsShort, lowered}
use Rattle.exec_box.proofs.MovedLaws.{AllAt, rising_moved, all_moved, moved_alike, all_where, passing}

abbrev pub less : List ℤ → Coordinate → Coordinate
less lo c = by_pairs (λ x l. x -ℤ l) c lo

shift_ranks : (l x y : ℤ) (r : Ordering) → MatchOrdering r (x <ℤ y) (x ≡ y) (y <ℤ x) → MatchOrdering r ((x -ℤ l) <ℤ (y -ℤ l)) ((x -ℤ l) ≡ (y -ℤ l)) ((y -ℤ l) <ℤ (x -ℤ l))
shift_ranks l x y Less h = omega (arith, ints)
shift_ranks l x y Equal h = ap (λ (z : ℤ). z -ℤ l) h
shift_ranks l x y Greater h = omega (arith, ints)

shift_cmp : (l x y : ℤ) → int_cmp (x -ℤ l) (y -ℤ l) ≡ int_cmp x y
shift_cmp l x y = sym (int_cmp_is (x -ℤ l) (y -ℤ l) (int_cmp x y) (shift_ranks l x y (int_cmp x y) (int_ranks x y)))

-- coordinates of a box keep their order
in_order : (lo hi a b : List ℤ) → is_between lo hi a ≡ true → is_between lo hi b ≡ true → row_major (less lo a) (less lo b) ≡ row_major a b
in_order [] [] [] [] e f = refl
in_order (l ∷ lo) (h ∷ hi) (x ∷ a) (y ∷ b) e f =
    let p = and_parts (int_le l x && int_le x h) (is_between lo hi a) e in
    let q = and_parts (int_le l y && int_le y h) (is_between lo hi b) f in
    ap (λ (o : Ordering). ordering_then o (row_major (less lo a) (less lo b))) (shift_cmp l x y)
    ∙ ap (ordering_then (int_cmp x y)) (in_order lo hi a b p.1 q.1)
in_order lo hi a b e f = cc

within_limits : (z : ℤ) → pos 0 ≤ℤ z → z ≤ℤ pos (2 ^ 63 - 1) → saturate_signed w64 z ≡ z
within_limits (pos n) low high = let few : n ≤ 2 ^ 63 - 1 = omega (arith, ints) in let same : min n (2 ^ 63 - 1) ≡ n = omega arith in ap pos same
within_limits (negsuc n) low high = absurd (omega (arith, ints))

-- the clipped stretch of a dimension: what lies in it, moved, lies from 0 to its length
stretch : (d : Dimension) (l h x : ℤ) → IsNear d → int_max d.lo l ≤ℤ x → x ≤ℤ int_min d.hi h
    → (pos 0 ≤ℤ (x -ℤ int_max d.lo l)) × ((x -ℤ int_max d.lo l) ≤ℤ saturate_signed w64 (int_min d.hi h -ℤ int_max d.lo l))
stretch d l h x near e f =
    let low : negsuc (2 ^ 62 - 2) ≤ℤ d.lo = near.low in
    let high : d.hi ≤ℤ pos (2 ^ 62 - 1) = near.high in
    let whole : saturate_signed w64 (int_min d.hi h -ℤ int_max d.lo l) ≡ (int_min d.hi h -ℤ int_max d.lo l) = within_limits (int_min d.hi h -ℤ int_max d.lo l) (omega (arith, ints, clamps)) (omega (arith, ints, clamps)) in
    let below : (x -ℤ int_max d.lo l) ≤ℤ (int_min d.hi h -ℤ int_max d.lo l) = omega (arith, ints, clamps) in
    (omega (arith, ints), subst (λ (z : ℤ). (x -ℤ int_max d.lo l) ≤ℤ z) (sym whole) below)

abbrev pub lows : List Dimension → List ℤ → List ℤ
lows dims lo = by_pairs int_max (map (λ d. d.lo) dims) lo

abbrev pub highs : List Dimension → List ℤ → List ℤ
highs dims hi = by_pairs int_min (map (λ d. d.hi) dims) hi

in_part : (dims : List Dimension) (lo hi : List ℤ) (c : Coordinate) → AreNear dims → is_between (lows dims lo) (highs dims hi) c ≡ true
    → is_inside (bounds_of (subarray_dimensions dims lo hi)) (less (lows dims lo) c) ≡ true
in_part [] lo hi [] near e = refl
in_part [] lo hi (x ∷ c) near e = cc
in_part (d ∷ dims) [] [] [] near e = refl
in_part (d ∷ dims) [] [] (x ∷ c) near e = cc
in_part (d ∷ dims) [] (h ∷ hi) c near e = cc
in_part (d ∷ dims) (l ∷ lo) [] c near e = cc
in_part (d ∷ dims) (l ∷ lo) (h ∷ hi) [] near e = cc
in_part (d ∷ dims) (l ∷ lo) (h ∷ hi) (x ∷ c) near e =
    let p = and_parts (int_le (int_max d.lo l) x && int_le x (int_min d.hi h)) (is_between (lows dims lo) (highs dims hi) c) e in
    let q = and_parts (int_le (int_max d.lo l) x) (int_le x (int_min d.hi h)) p.0 in
    let s = stretch d l h x near.0 (le_from_test (int_max d.lo l) x q.0) (le_from_test x (int_min d.hi h) q.1) in
    and_both _ _ (and_both _ _ (le_test (pos 0) (x -ℤ int_max d.lo l) s.0) (le_test (x -ℤ int_max d.lo l) (saturate_signed w64 (int_min d.hi h -ℤ int_max d.lo l)) s.1)) (in_part dims lo hi c near.1 p.1)

-- the clipped box is short
short_sides : (dims : List Dimension) (lo hi : List ℤ) → AreNear dims → AreShort (lows dims lo) (highs dims hi)
short_sides [] lo hi near = tt
short_sides (d ∷ dims) [] hi near = tt
short_sides (d ∷ dims) (l ∷ lo) [] near = tt
short_sides (d ∷ dims) (l ∷ lo) (h ∷ hi) near =
    let low : negsuc (2 ^ 62 - 2) ≤ℤ d.lo = near.0.low in
    let high : d.hi ≤ℤ pos (2 ^ 62 - 1) = near.0.high in
    (omega (arith, ints, clamps), short_sides dims lo hi near.1)

pub short_box : (area : Bounds) (schema : Schema) → IsValid schema → IsShort (meet (bounds_of schema.dimensions) area)
short_box area schema valid = short_sides schema.dimensions area.lo.items area.hi.items (valid_placed schema valid).near

abbrev InBox : Bounds → Coordinate → Type 0
InBox area c = is_inside area c ≡ true

in_box : (area : Bounds) (rows : List Row) → AllAt (InBox area) (within area rows)
in_box area rows = passing (is_inside area) rows

pub subarrays_are_arrays : SubarraysAreArrays
subarrays_are_arrays area schema rows a v =
    let dims = schema.dimensions in
    let near : AreNear dims = (valid_placed schema a.valid).near in
    let box : Bounds = meet (bounds_of dims) area in
    record {
      valid = v;
      are_rows = record {
        rising = rising_moved (InBox box) (less box.lo.items) (in_order box.lo.items box.hi.items) (within box rows) (in_box box rows) (IsRising-rows_where (is_inside box) rows a.are_rows.rising);
        in_bounds = all_moved (λ row. InBox box row.at.items) (λ row. is_inside (bounds_of (subarray_dimensions dims area.lo.items area.hi.items)) row.at.items ≡ true) (less box.lo.items) (λ row i. in_part dims area.lo.items area.hi.items row.at.items near i) (within box rows) (in_box box rows);
      };
      kinds = all_moved (λ row. IsCellOf schema.attributes row.cell) (λ row. IsCellOf schema.attributes row.cell) (less box.lo.items) (λ row k. k) (within box rows) (all_where (λ row. IsCellOf schema.attributes row.cell) (is_inside box) rows a.kinds);
    }

-- no number of a moved coordinate is cut off at the limits of 64 bits
exact : (lo hi : List ℤ) (c : Coordinate) → AreShort lo hi → is_between lo hi c ≡ true → lowered lo c ≡ less lo c
exact [] [] [] short e = refl
exact (l ∷ lo) (h ∷ hi) (x ∷ c) short e =
    let p = and_parts (int_le l x && int_le x h) (is_between lo hi c) e in
    let q = and_parts (int_le l x) (int_le x h) p.0 in
    let low = le_from_test l x q.0 in
    let high = le_from_test x h q.1 in
    let side = short.0 in
    ap (λ (z : ℤ). z ∷ lowered lo c) (within_limits (x -ℤ l) (omega (arith, ints)) (omega (arith, ints))) ∙ ap (λ (zs : List ℤ). (x -ℤ l) ∷ zs) (exact lo hi c short.1 p.1)
exact lo hi c short e = cc

pub lowered_exactly : (area : Bounds) (rows : List Row) → IsShort area → map (moved (lowered area.lo.items)) (within area rows) ≡ subarray_rows area rows
lowered_exactly area rows short = moved_alike (InBox area) (lowered area.lo.items) (less area.lo.items) (λ c i. exact area.lo.items area.hi.items c short i) (within area rows) (in_box area rows)
