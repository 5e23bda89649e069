-- Rows that come before others, and what a box has from a coordinate on.
use Rattle.std.specs.Prelude.{◌≡◌, ℤ, Bool, true, false, not, List, [], ◌∷◌, Option, Some, None, IsTrue}
use Rattle.std.specs.List.{AllByRecursion}
use Rattle.std.specs.Ordering.{is_lt}
use Rattle.std.specs.declared.cmp.Ordering.TheVariants.{Less}
use Rattle.arrayvec.specs.ArrayVec.{ArrayVec}
use Rattle.cell_values.specs.declared.datum.Row.{Row}
use Rattle.cell_values.specs.declared.schema.Bounds.{Bounds}
use Rattle.array_rows.specs.Boxes.{is_between, is_inside}
use Rattle.array_rows.specs.Rows.{Coordinate, row_major}

-- each row comes before the coordinate
abbrev pub AreBefore : Coordinate → List Row → Type 0
AreBefore c = AllByRecursion (λ row. row_major row.at.items c ≡ Less)

-- the coordinate does not come before another one. Where there is no other, no coordinate is meant
abbrev pub IsFrom : Option (ArrayVec ℤ) → Coordinate → Type 0
IsFrom None c = ⊥
IsFrom (Some next) c = is_lt (row_major c next.items) ≡ false

-- what a box has from a coordinate on, it has from the next one on, and without a next one it has nothing there
abbrev pub Follows : Coordinate → Coordinate → Coordinate → Option (ArrayVec ℤ) → Type 0
Follows lo hi at next = (c : Coordinate) → IsTrue (is_between lo hi c) → is_lt (row_major c at) ≡ false → IsFrom next c

-- the first row, if there is one, lies outside a box
abbrev pub begins_outside : Bounds → List Row → Bool
begins_outside area [] = true
begins_outside area (row ∷ rows) = not (is_inside area row.at.items)
