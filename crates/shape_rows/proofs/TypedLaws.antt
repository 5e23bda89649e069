-- What the rules of typed plans give: kinds and bounds that are equal one by one, and new high bounds of 64 bits.
use Rattle.std.proofs.Common.{◌≡◌, ℕ, ◌+◌, ◌-◌, ◌*◌, ◌<◌, ◌^◌, ℤ, pos, negsuc, ◌+ℤ◌, ◌-ℤ◌, ◌≤ℤ◌, true, ◌&&◌, List, [], ◌∷◌, refl, ◌∙◌, arith}
use Rattle.std.specs.Int.{w64, saturate_signed}
use Rattle.std.specs.Ordering.{int_eq}
use Rattle.std.specs.Prelude.{int_le, nat_le, unsigned_abs}
use Rattle.std.proofs.lemmas.Int.{ints}
use Rattle.cell_values.specs.declared.schema.Attribute.{Attribute}
use Rattle.cell_values.specs.declared.schema.Dimension.{Dimension}
use Rattle.cell_values.specs.declared.schema.Kind.{Kind}
use Rattle.cell_values.specs.declared.schema.Kind.TheVariants.{Int64, Str, Bool as Truths}
use Rattle.array_geom.specs.Inner.Ranges.{AreNear}
use Rattle.array_geom.proofs.TestLaws.{and_parts, at_most, le_from_test}
use Rattle.expr_nulls.specs.Typing.{same_kind}
use Rattle.logical_plan.specs.Shapes.{last_place}
use Rattle.logical_plan.specs.ShapeSchemas.{length_of}
use Rattle.logical_plan.specs.Typing.{can_enlarge, can_follow, is_bounded, same_bounds, same_kinds}
use Rattle.shape_rows.specs.Laws.{AllEnlarge, CanFollow, SameBounds, SameKinds}

-- ---- kinds and bounds

one_kind : (a b : Kind) → same_kind a b ≡ true → a ≡ b
one_kind Int64 Int64 e = refl
one_kind Str Str e = refl
one_kind Truths Truths e = refl
one_kind Int64 Str e = cc
one_kind Int64 Truths e = cc
one_kind Str Int64 e = cc
one_kind Str Truths e = cc
one_kind Truths Int64 e = cc
one_kind Truths Str e = cc

pub kinds_are_same : (left right : List Attribute) → same_kinds left right ≡ true → SameKinds left right
kinds_are_same [] [] e = tt
kinds_are_same [] (b ∷ right) e = absurd cc
kinds_are_same (a ∷ left) [] e = absurd cc
kinds_are_same (a ∷ left) (b ∷ right) e =
    let p = and_parts (same_kind a.kind b.kind) (same_kinds left right) e in
    (one_kind a.kind b.kind p.0, kinds_are_same left right p.1)

one_number : (a b : ℤ) → int_eq a b ≡ true → a ≡ b
one_number a b e = grind (arith, ints)

pub bounds_are_same : (left right : List Dimension) → same_bounds left right ≡ true → SameBounds left right
bounds_are_same [] [] e = tt
bounds_are_same [] (b ∷ right) e = absurd cc
bounds_are_same (a ∷ left) [] e = absurd cc
bounds_are_same (a ∷ left) (b ∷ right) e =
    let p = and_parts (int_eq a.lo b.lo && int_eq a.hi b.hi) (same_bounds left right) e in
    let q = and_parts (int_eq a.lo b.lo) (int_eq a.hi b.hi) p.0 in
    ((one_number a.lo b.lo q.0, one_number a.hi b.hi q.1), bounds_are_same left right p.1)

-- ---- high bounds

within_bounds : (low : ℤ) (n : ℕ) → negsuc (2 ^ 62 - 2) ≤ℤ low → (low +ℤ pos n) ≤ℤ pos (2 ^ 62 - 1) → saturate_signed w64 (low +ℤ pos n) ≡ (low +ℤ pos n)
within_bounds low n a b = grind (arith, ints)

last_of_block : (low : ℤ) (n size : ℕ) → 0 < size → (low +ℤ pos (n * size + (size - 1))) ≡ ((low +ℤ pos ((n + 1) * size)) -ℤ pos 1)
last_of_block low n size some = by_product (n * size) ((n + 1) * size) (grind arith)
  where
    by_product : (m k : ℕ) → k ≡ m + size → (low +ℤ pos (m + (size - 1))) ≡ ((low +ℤ pos k) -ℤ pos 1)
    by_product m k e = omega (arith, ints, e, some)

pub all_enlarge : (dims : List Dimension) (sizes : List ℕ) → AreNear dims → can_enlarge dims sizes ≡ true → AllEnlarge dims sizes
all_enlarge [] [] near e = tt
all_enlarge [] (size ∷ sizes) near e = absurd cc
all_enlarge (d ∷ dims) [] near e = absurd cc
all_enlarge (d ∷ dims) (size ∷ sizes) near e =
    let p = and_parts (nat_le 1 size && int_le (last_place d size d.hi) (pos 4611686018427387903)) (can_enlarge dims sizes) e in
    let q = and_parts (nat_le 1 size) (int_le (last_place d size d.hi) (pos 4611686018427387903)) p.0 in
    let some : 0 < size = at_most 1 size q.0 in
    let n : ℕ = unsigned_abs (d.hi -ℤ d.lo) in (
      (some, near.0.order, within_bounds d.lo (n * size + (size - 1)) near.0.low (le_from_test (last_place d size d.hi) (pos 4611686018427387903) q.1) ∙ last_of_block d.lo n size some),
      all_enlarge dims sizes near.1 p.1,
    )

above_low : (low high : ℤ) → negsuc (2 ^ 62 - 2) ≤ℤ low → low ≤ℤ high → negsuc (2 ^ 62 - 2) ≤ℤ high
above_low low high a b = omega (arith, ints, a, b)

pub follows : (left right : List Dimension) → AreNear left → AreNear right → can_follow left right ≡ true → CanFollow left right
follows [] right n m e = absurd cc
follows (l ∷ left) [] n m e = absurd cc
follows (l ∷ left) (r ∷ right) n m e =
    let p = and_parts (is_bounded l && int_le (l.hi +ℤ pos (length_of r)) (pos 4611686018427387903)) (same_bounds left right) e in
    let q = and_parts (is_bounded l) (int_le (l.hi +ℤ pos (length_of r)) (pos 4611686018427387903)) p.0 in (
      n.0.order,
      m.0.order,
      within_bounds l.hi (length_of r) (above_low l.lo l.hi n.0.low n.0.order) (le_from_test (l.hi +ℤ pos (length_of r)) (pos 4611686018427387903) q.1),
      bounds_are_same left right p.1,
    )
