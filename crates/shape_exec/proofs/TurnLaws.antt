-- Cells at their coordinates backwards, and opposite.
use Rattle.std.proofs.Common.{◌≡◌, ◌-◌, ◌^◌, ℤ, pos, negsuc, ◌+ℤ◌, ◌-ℤ◌, ◌≤ℤ◌, true, ◌&&◌, List, [], ◌∷◌, refl, ap, ◌∙◌, arith}
use Rattle.std.proofs.lemmas.Int.{ints, clamps}
use Rattle.std.proofs.lemmas.List.{reverse-reverse}
use Rattle.std.specs.Int.{w64, saturate_signed}
use Rattle.std.specs.Prelude.{int_le}
use Rattle.cell_values.specs.declared.schema.Dimension.{Dimension}
use Rattle.cell_values.specs.declared.schema.Schema.{Schema}
use Rattle.array_rows.specs.Boxes.{bounds_of, by_pairs, is_between, is_inside}
use Rattle.array_rows.specs.Rows.{Coordinate}
use Rattle.array_geom.specs.Inner.Ranges.{AreNear}
use Rattle.array_geom.proofs.TestLaws.{and_both, and_parts, le_test, le_from_test}
use Rattle.logical_plan.specs.ShapeSchemas.{transpose_schema}
use Rattle.logical_plan.specs.Shapes.{backwards, mirrored, opposite}
use Rattle.shape_rows.proofs.PullLaws.{inside_backwards, inside_mirrored, mirrored_again}
use Rattle.shape_exec.specs.Inner.Added.{IsMove}

pub transpose_move : (source target : Schema) → target ≡ transpose_schema source → IsMove source.dimensions target.dimensions backwards backwards
transpose_move source target e = record {
  comes = λ c i. ap (λ (s : Schema). is_inside (bounds_of s.dimensions) (backwards c)) e ∙ inside_backwards source.dimensions c i;
  there = λ c i. reverse-reverse c;
  again = λ y i. reverse-reverse y;
}

pub reverse_move : (dims : List Dimension) → IsMove dims dims (mirrored dims) (mirrored dims)
reverse_move dims = record { comes = inside_mirrored dims; there = mirrored_again dims; again = mirrored_again dims }

-- a number of 62 bits is as far from one that 64 bits hold as from the number itself
pub saturated_below : (z x : ℤ) → negsuc (2 ^ 62) ≤ℤ x → z ≤ℤ x → saturate_signed w64 z ≤ℤ x
saturated_below (pos n) x low h = omega (arith, ints, clamps)
saturated_below (negsuc n) x low h = omega (arith, ints, clamps)

pub saturated_above : (z x : ℤ) → x ≤ℤ pos (2 ^ 62) → x ≤ℤ z → x ≤ℤ saturate_signed w64 z
saturated_above (pos n) x high h = omega (arith, ints, clamps)
saturated_above (negsuc n) x high h = omega (arith, ints, clamps)

few_low : (lo hi x : ℤ) → negsuc (2 ^ 62 - 2) ≤ℤ lo → x ≤ℤ hi → negsuc (2 ^ 62) ≤ℤ ((lo +ℤ hi) -ℤ x)
few_low lo hi x a b = omega (arith, ints)

few_high : (lo hi x : ℤ) → hi ≤ℤ pos (2 ^ 62 - 1) → lo ≤ℤ x → ((lo +ℤ hi) -ℤ x) ≤ℤ pos (2 ^ 62)
few_high lo hi x a b = omega (arith, ints)

turn_low : (lo hi h x : ℤ) → x ≤ℤ h → ((lo +ℤ hi) -ℤ h) ≤ℤ ((lo +ℤ hi) -ℤ x)
turn_low lo hi h x e = omega (arith, ints)

-- the box opposite has what lies opposite to the places of a box
pub turned_box : (dims : List Dimension) (lo hi y : Coordinate) → AreNear dims → is_inside (bounds_of dims) y ≡ true → is_between lo hi y ≡ true
    → is_between (by_pairs (λ d x. saturate_signed w64 (opposite d x)) dims hi) (by_pairs (λ d x. saturate_signed w64 (opposite d x)) dims lo) (mirrored dims y) ≡ true
turned_box [] lo hi [] near t a = refl
turned_box [] lo hi (x ∷ y) near t a = absurd cc
turned_box (d ∷ dims) lo hi [] near t a = absurd cc
turned_box (d ∷ dims) [] [] (x ∷ y) near t a = absurd cc
turned_box (d ∷ dims) [] (h ∷ hi) (x ∷ y) near t a = absurd cc
turned_box (d ∷ dims) (l ∷ lo) [] (x ∷ y) near t a = absurd cc
turned_box (d ∷ dims) (l ∷ lo) (h ∷ hi) (x ∷ y) near t a =
    let p = and_parts (int_le d.lo x && int_le x d.hi) (is_inside (bounds_of dims) y) t in
    let q = and_parts (int_le d.lo x) (int_le x d.hi) p.0 in
    let r = and_parts (int_le l x && int_le x h) (is_between lo hi y) a in
    let s = and_parts (int_le l x) (int_le x h) r.0 in
    let low = saturated_below (opposite d h) (opposite d x) (few_low d.lo d.hi x near.0.low (le_from_test x d.hi q.1)) (turn_low d.lo d.hi h x (le_from_test x h s.1)) in
    let high = saturated_above (opposite d l) (opposite d x) (few_high d.lo d.hi x near.0.high (le_from_test d.lo x q.0)) (turn_low d.lo d.hi x l (le_from_test l x s.0)) in
    and_both _ _ (and_both _ _ (le_test (saturate_signed w64 (opposite d h)) (opposite d x) low) (le_test (opposite d x) (saturate_signed w64 (opposite d l)) high)) (turned_box dims lo hi y near.1 p.1 r.1)
