-- A dimension with another high bound, which is one and not below the low one.
use Rattle.std.proofs.Common.{◌≡◌, ◌≤◌, ℤ, pos, negsuc, ◌≤ℤ◌, unsigned_abs, true, ◌&&◌, ap, ◌∙◌, arith}
use Rattle.std.specs.Int.{w64, saturate_signed}
use Rattle.std.specs.Prelude.{int_le}
use Rattle.std.proofs.lemmas.Bool.{and_parts, and_from, leb-true, le-leb}
use Rattle.std.proofs.lemmas.Int.{ints}
use Rattle.cell_values.specs.declared.schema.Dimension.{Dimension}
use Rattle.cell_values.specs.Schemas.{is_dimension, is_bound, bounds_in_range, bounds_in_order, has_chunk, overlap_fits}
use Rattle.logical_plan.specs.ShapeSchemas.{with_high}
use Rattle.check_groups.proofs.GroupSchemas.{at_most_int, bounded, in_limits, int_at_most, not_below}

-- the bounds of a dimension are in order
pub in_order : (d : Dimension) → is_dimension d ≡ true → d.lo ≤ℤ d.hi
in_order d e =
    let p = and_parts (bounds_in_range d && bounds_in_order d && has_chunk d) (overlap_fits d) e in
    let q = and_parts (bounds_in_range d && bounds_in_order d) (has_chunk d) p.0 in
    int_at_most d.lo d.hi (and_parts (bounds_in_range d) (bounds_in_order d) q.0).1

pub high_fits : (d : Dimension) (z : ℤ) → is_dimension d ≡ true → d.lo ≤ℤ z → int_le z (pos 4611686018427387903) ≡ true → is_dimension (with_high d z) ≡ true
high_fits d z e above room =
    let p = and_parts (bounds_in_range d && bounds_in_order d && has_chunk d) (overlap_fits d) e in
    let q = and_parts (bounds_in_range d && bounds_in_order d) (has_chunk d) p.0 in
    let r = and_parts (bounds_in_range d) (bounds_in_order d) q.0 in
    let t = and_parts (is_bound d.lo) (is_bound d.hi) r.0 in
    let first = not_below d.lo (leb-true (unsigned_abs d.lo) 4611686018427387903 t.0) in
    let last : z ≤ℤ pos 4611686018427387903 = int_at_most z (pos 4611686018427387903) room in
    let low : negsuc 4611686018427387902 ≤ℤ z = omega (arith, ints, first, above) in
    let near : unsigned_abs z ≤ 4611686018427387903 = bounded z low last in
    let exact : saturate_signed w64 z ≡ z = in_limits z (omega (arith, ints, low)) (omega (arith, ints, last)) in
    let x : Dimension = with_high d z in
    and_from (bounds_in_range x && bounds_in_order x && has_chunk x) (overlap_fits x)
    (and_from (bounds_in_range x && bounds_in_order x) (has_chunk x)
    (and_from (bounds_in_range x) (bounds_in_order x)
    (and_from (is_bound d.lo) (is_bound (saturate_signed w64 z)) t.0 (ap is_bound exact ∙ le-leb (unsigned_abs z) 4611686018427387903 near))
    (ap (int_le d.lo) exact ∙ at_most_int d.lo z above)) q.1) p.1
