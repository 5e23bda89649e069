-- Boxes that hold others.
use Rattle.std.specs.Prelude.{◌≡◌, true}
use Rattle.std.specs.Int.{int_max, int_min}
use Rattle.cell_values.specs.declared.schema.Bounds.{Bounds}
use Rattle.array_rows.specs.Boxes.{by_pairs, corners, is_inside}
use Rattle.array_rows.specs.Rows.{Coordinate}

-- the least box with two boxes
abbrev pub hull : Bounds → Bounds → Bounds
hull a b = corners (by_pairs int_min a.lo.items b.lo.items) (by_pairs int_max a.hi.items b.hi.items)

-- each coordinate of the other lies in the box
abbrev pub Covers : Bounds → Bounds → Type 0
Covers area other = (c : Coordinate) → is_inside other c ≡ true → is_inside area c ≡ true
