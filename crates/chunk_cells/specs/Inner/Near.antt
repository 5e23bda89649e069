-- Which chunks have a coordinate in their frame: those whose number lies in a box of numbers.
use Rattle.std.specs.Prelude.{ℕ, ◌+◌, ◌-◌, ◌/◌, ◌-ℤ◌, unsigned_abs, nat_le, nat_lt, Bool, true, false, cond, ◌&&◌, List, [], ◌∷◌}
use Rattle.std.specs.Ordering.{is_lt}
use Rattle.cell_values.specs.declared.schema.Dimension.{Dimension}
use Rattle.array_rows.specs.Rows.{Coordinate}
use Rattle.array_geom.specs.Geometry.{ChunkNumber}
use Rattle.array_geom.specs.Link.{number_order}

-- the number of the first chunk and of the last one that reach a coordinate with their margins, whether these chunks exist or not
abbrev pub near_low : List Dimension → List ℕ → Coordinate → ChunkNumber
near_low (d ∷ dims) (m ∷ margins) (x ∷ c) = ((unsigned_abs (x -ℤ d.lo) - m) / d.chunk) ∷ near_low dims margins c
near_low _ _ _ = []

abbrev pub near_high : List Dimension → List ℕ → Coordinate → ChunkNumber
near_high (d ∷ dims) (m ∷ margins) (x ∷ c) = ((unsigned_abs (x -ℤ d.lo) + m) / d.chunk) ∷ near_high dims margins c
near_high _ _ _ = []

-- each number lies between the low and the high one
abbrev pub lies_between : ChunkNumber → ChunkNumber → ChunkNumber → Bool
lies_between [] [] [] = true
lies_between (l ∷ low) (h ∷ high) (k ∷ ks) = nat_le l k && nat_le k h && lies_between low high ks
lies_between _ _ _ = false

-- the first number of the box that doesn't come before one, which isn't after the box's last number
abbrev pub next_between : ChunkNumber → ChunkNumber → ChunkNumber → ChunkNumber
next_between (l ∷ low) (h ∷ high) (k ∷ ks) = cond (nat_lt k l) (l ∷ low) (cond (is_lt (number_order high ks)) ((k + 1) ∷ low) (k ∷ next_between low high ks))
next_between _ _ _ = []
