-- Rows at different coordinates.
use Rattle.std.specs.Prelude.{◌≤◌, List, length, filter}
use Rattle.std.specs.Ordering.{is_eq}
use Rattle.cell_values.specs.declared.datum.Row.{Row}
use Rattle.array_rows.specs.Rows.{Coordinate, row_major}

-- no coordinate has two of them
abbrev pub AreDifferent : List Row → Type 0
AreDifferent rows = (c : Coordinate) → length (filter (λ row. is_eq (row_major row.at.items c)) rows) ≤ 1
