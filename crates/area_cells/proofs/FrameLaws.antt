-- Frames without margins.
use Rattle.std.proofs.Common.{◌≡◌, ℕ, suc, ◌+◌, ◌*◌, ◌≤◌, ◌^◌, ℤ, pos, ◌+ℤ◌, ◌-ℤ◌, ◌≤ℤ◌, true, ◌&&◌, List, [], ◌∷◌, length, refl, ap, arith}
use Rattle.std.proofs.lemmas.Int.{ints, clamps}
use Rattle.std.proofs.lemmas.Nat.{mul-le}
use Rattle.std.specs.Int.{int_min}
use Rattle.std.specs.Prelude.{int_le}
use Rattle.cell_values.specs.declared.schema.Dimension.{Dimension}
use Rattle.cell_values.specs.declared.schema.Schema.{Schema}
use Rattle.cell_values.specs.Schemas.{IsValid}
use Rattle.array_rows.specs.Boxes.{bounds_of, is_inside, within}
use Rattle.array_rows.specs.Rows.{Coordinate}
use Rattle.array_geom.specs.Geometry.{ChunkNumber, core, first_in, frame, frame_lengths, last_in, overlaps, volume}
use Rattle.array_geom.proofs.MarginLaws.{overlap_places}
use Rattle.array_geom.proofs.TestLaws.{and_parts, and_both, le_test, le_from_test}
use Rattle.area_cells.specs.Margins.{no_margins}

low_side : (l x : ℤ) → (l -ℤ pos 0) ≤ℤ x → l ≤ℤ x
low_side l x h = omega (arith, ints)

high_side : (x y z : ℤ) → x ≤ℤ y → x ≤ℤ (z +ℤ pos 0) → x ≤ℤ (int_min y z)
high_side x y z h k = omega (arith, ints, clamps)

-- within the bounds such a frame is its core
pub frame_in_core : (dims : List Dimension) (k : ChunkNumber) (c : Coordinate) → is_inside (bounds_of dims) c ≡ true → is_inside (frame dims (no_margins dims) k) c ≡ true → is_inside (core dims k) c ≡ true
frame_in_core [] k c b e = e
frame_in_core (d ∷ dims) [] c b e = e
frame_in_core (d ∷ dims) (q ∷ k) [] b e = e
frame_in_core (d ∷ dims) (q ∷ k) (x ∷ c) b e =
    let s = and_parts (int_le d.lo x && int_le x d.hi) (is_inside (bounds_of dims) c) b in
    let t = and_parts (int_le d.lo x) (int_le x d.hi) s.0 in
    let u = and_parts (int_le (first_in d q -ℤ pos 0) x && int_le x (last_in d q +ℤ pos 0)) (is_inside (frame dims (no_margins dims) k) c) e in
    let v = and_parts (int_le (first_in d q -ℤ pos 0) x) (int_le x (last_in d q +ℤ pos 0)) u.0 in
    and_both (int_le (first_in d q) x && int_le x (int_min d.hi (last_in d q))) (is_inside (core dims k) c)
    (and_both (int_le (first_in d q) x) (int_le x (int_min d.hi (last_in d q))) (le_test (first_in d q) x (low_side (first_in d q) x (le_from_test _ _ v.0)))
    (le_test x (int_min d.hi (last_in d q)) (high_side x d.hi (last_in d q) (le_from_test _ _ t.1) (le_from_test _ _ v.1))))
    (frame_in_core dims k c s.1 u.1)

product : (n m a b : ℕ) → a ≤ b → (n + 2 * 0) * a ≤ (n + 2 * m) * b
product n m a b h = mul-le (n + 2 * 0) a (n + 2 * m) b (omega arith) h

no_larger : (dims : List Dimension) → volume (frame_lengths dims (no_margins dims)) ≤ volume (frame_lengths dims (overlaps dims))
no_larger [] = omega arith
no_larger (d ∷ dims) = product d.chunk d.overlap (volume (frame_lengths dims (no_margins dims))) (volume (frame_lengths dims (overlaps dims))) (no_larger dims)

pub each_none : (dims : List Dimension) → length (no_margins dims) ≡ length dims
each_none [] = refl
each_none (d ∷ dims) = ap suc (each_none dims)

pub places_none : (target : Schema) → IsValid target → volume (frame_lengths target.dimensions (no_margins target.dimensions)) ≤ 2 ^ 48
places_none target valid =
    let small = overlap_places target (overlaps target.dimensions) refl valid in
    let less = no_larger target.dimensions in
    omega (arith, small, less)
