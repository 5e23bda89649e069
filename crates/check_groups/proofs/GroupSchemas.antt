-- The schemas of groups and windows are valid.
use Rattle.std.proofs.Common.{◌≡◌, ℕ, suc, zero, ◌-◌, ◌/◌, ◌^◌, ◌≤◌, ℤ, pos, negsuc, ◌≤ℤ◌, ◌+ℤ◌, ◌-ℤ◌, unsigned_abs, min, true, ◌&&◌, List, [], ◌∷◌, ◌++◌, length, refl, ap, ◌∙◌, arith}
use Rattle.std.specs.Int.{w64, saturate_signed}
use Rattle.std.specs.List.{list_all}
use Rattle.std.specs.Prelude.{int_le}
use Rattle.std.proofs.lemmas.Bool.{and_parts, and_from, leb-true, le-leb}
use Rattle.std.proofs.lemmas.Int.{ints}
use Rattle.std.proofs.lemmas.List.{length-map}
use Rattle.cell_values.specs.declared.schema.Attribute.{Attribute}
use Rattle.cell_values.specs.declared.schema.Dimension.{Dimension}
use Rattle.cell_values.specs.Schemas.{IsValid, dimension_names, are_distinct, is_dimension, is_bound, bounds_in_range, bounds_in_order, has_chunk, overlap_fits}
use Rattle.array_rows.specs.Boxes.{by_pairs}
use Rattle.logical_plan.specs.Groups.{block}
use Rattle.logical_plan.specs.PlanSchema.{aggregate_attributes, aggregate_kind, derived, in_blocks}
use Rattle.logical_plan.specs.Typing.{aggregate_names}
use Rattle.logical_plan.specs.declared.parts.Aggregate.{Aggregate}
use Rattle.check_rules.proofs.OperatorsHolding.{IsWithin}
use Rattle.check_rules.proofs.ValidSchemas.{valid_of_parts, has_some}
use Rattle.check_groups.proofs.Kept.{derived_names}

-- aggregates over dimensions
pub made_valid : (attributes : List Attribute) (gs : List Aggregate) (dims : List Dimension) → 1 ≤ length gs → 1 ≤ length dims → are_distinct (aggregate_names gs ++ dimension_names dims) ≡ true → list_all is_dimension dims ≡ true
    → IsWithin (record { attributes = aggregate_attributes attributes gs; dimensions = dims }) → IsValid (record { attributes = aggregate_attributes attributes gs; dimensions = dims })
made_valid attributes gs dims some one distinct each within =
    let count : length (aggregate_attributes attributes gs) ≡ length gs = length-map gs (λ (g : Aggregate). derived g.name (aggregate_kind attributes g)) in
    valid_of_parts (record { attributes = aggregate_attributes attributes gs; dimensions = dims }) (record {
      attributes = has_some (aggregate_attributes attributes gs) 64 (omega (arith, some, count)) within.attributes;
      dimensions = has_some dims 6 one within.dimensions;
      distinct = ap (λ (ns : List (List ℕ)). are_distinct (ns ++ dimension_names dims)) (derived_names attributes gs) ∙ distinct;
      each = each;
      frames = within.frames;
    })

-- blocks along a dimension

pub in_limits : (z : ℤ) → negsuc (2 ^ 63 - 1) ≤ℤ z → z ≤ℤ pos (2 ^ 63 - 1) → saturate_signed w64 z ≡ z
in_limits (pos n) low high = let few : n ≤ 2 ^ 63 - 1 = omega (arith, ints) in let same : min n (2 ^ 63 - 1) ≡ n = omega arith in ap pos same
in_limits (negsuc n) low high = let few : n ≤ 2 ^ 63 - 1 = omega (arith, ints) in let same : min n (2 ^ 63 - 1) ≡ n = omega arith in ap negsuc same

no_more : (n size : ℕ) → n / size ≤ n
no_more n zero = grind arith
no_more n (suc size) = grind arith

pub int_at_most : (a b : ℤ) → int_le a b ≡ true → a ≤ℤ b
int_at_most a b e = grind (arith, ints)

pub at_most_int : (a b : ℤ) → a ≤ℤ b → int_le a b ≡ true
at_most_int a b e = grind (arith, ints)

pub not_below : (z : ℤ) → unsigned_abs z ≤ 4611686018427387903 → negsuc 4611686018427387902 ≤ℤ z
not_below (pos n) h = omega (arith, ints)
not_below (negsuc n) h = omega (arith, ints, h)

pub not_above : (z : ℤ) → unsigned_abs z ≤ 4611686018427387903 → z ≤ℤ pos 4611686018427387903
not_above (pos n) h = omega (arith, ints, h)
not_above (negsuc n) h = omega (arith, ints)

pub bounded : (z : ℤ) → negsuc 4611686018427387902 ≤ℤ z → z ≤ℤ pos 4611686018427387903 → unsigned_abs z ≤ 4611686018427387903
bounded (pos n) l h = omega (arith, ints, l, h)
bounded (negsuc n) l h = omega (arith, ints, l, h)

-- the block of the high bound lies between the bounds
from_low : (lo hi : ℤ) (size : ℕ) → lo ≤ℤ block lo size hi
from_low lo hi size = omega (arith, ints)

to_high : (lo hi : ℤ) (size : ℕ) → lo ≤ℤ hi → block lo size hi ≤ℤ hi
to_high lo hi size h =
    let less = no_more (unsigned_abs (hi -ℤ lo)) size in
    let whole : lo +ℤ pos (unsigned_abs (hi -ℤ lo)) ≡ hi = omega (arith, ints, h) in
    omega (arith, ints, less, whole)

blocks_fit : (d : Dimension) (size : ℕ) → is_dimension d ≡ true → is_dimension (in_blocks d size) ≡ true
blocks_fit d size e =
    let p = and_parts (bounds_in_range d && bounds_in_order d && has_chunk d) (overlap_fits d) e in
    let q = and_parts (bounds_in_range d && bounds_in_order d) (has_chunk d) p.0 in
    let r = and_parts (bounds_in_range d) (bounds_in_order d) q.0 in
    let t = and_parts (is_bound d.lo) (is_bound d.hi) r.0 in
    let order : d.lo ≤ℤ d.hi = int_at_most d.lo d.hi r.1 in
    let b : ℤ = block d.lo size d.hi in
    let first : d.lo ≤ℤ b = from_low d.lo d.hi size in
    let last : b ≤ℤ d.hi = to_high d.lo d.hi size order in
    let low = not_below d.lo (leb-true (unsigned_abs d.lo) 4611686018427387903 t.0) in
    let high = not_above d.hi (leb-true (unsigned_abs d.hi) 4611686018427387903 t.1) in
    let near : unsigned_abs b ≤ 4611686018427387903 = bounded b (omega (arith, ints, low, first)) (omega (arith, ints, high, last)) in
    let exact : saturate_signed w64 b ≡ b = in_limits b (omega (arith, ints, low, first)) (omega (arith, ints, high, last)) in
    let x : Dimension = in_blocks d size in
    and_from (bounds_in_range x && bounds_in_order x && has_chunk x) (overlap_fits x)
    (and_from (bounds_in_range x && bounds_in_order x) (has_chunk x)
    (and_from (bounds_in_range x) (bounds_in_order x)
    (and_from (is_bound d.lo) (is_bound (saturate_signed w64 b)) t.0 (ap is_bound exact ∙ le-leb (unsigned_abs b) 4611686018427387903 near))
    (ap (int_le d.lo) exact ∙ at_most_int d.lo b first)) q.1) (le-leb 0 d.chunk (omega arith))

pub all_blocks_fit : (dims : List Dimension) (sizes : List ℕ) → list_all is_dimension dims ≡ true → list_all is_dimension (by_pairs in_blocks dims sizes) ≡ true
all_blocks_fit [] sizes e = refl
all_blocks_fit (d ∷ dims) [] e = refl
all_blocks_fit (d ∷ dims) (size ∷ sizes) e =
    let p = and_parts (is_dimension d) (list_all is_dimension dims) e in
    and_from (is_dimension (in_blocks d size)) (list_all is_dimension (by_pairs in_blocks dims sizes)) (blocks_fit d size p.0) (all_blocks_fit dims sizes p.1)

pub block_names : (dims : List Dimension) (sizes : List ℕ) → length sizes ≡ length dims → dimension_names (by_pairs in_blocks dims sizes) ≡ dimension_names dims
block_names [] sizes e = refl
block_names (d ∷ dims) [] e = absurd (omega (arith, e))
block_names (d ∷ dims) (size ∷ sizes) e = ap (λ (ns : List (List ℕ)). d.name ∷ ns) (block_names dims sizes (omega (arith, e)))

pub block_count : (dims : List Dimension) (sizes : List ℕ) → length sizes ≡ length dims → length (by_pairs in_blocks dims sizes) ≡ length dims
block_count [] sizes e = refl
block_count (d ∷ dims) [] e = absurd (omega (arith, e))
block_count (d ∷ dims) (size ∷ sizes) e = ap suc (block_count dims sizes (omega (arith, e)))
