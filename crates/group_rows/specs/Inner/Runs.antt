-- The cells of a run, which are taken into the states of one group.
use Rattle.std.specs.Prelude.{ℕ, ◌+◌, ◌^◌, ◌<◌, ◌≤◌, List, length, ⊤}
use Rattle.cell_values.specs.declared.datum.Row.{Row}
use Rattle.array_geom.specs.Inner.Ranges.{IsGrid}
use Rattle.group_rows.specs.declared.runs.CellRun.{CellRun}
use Rattle.group_rows.specs.declared.runs.CellRun.TheVariants.{Rows, Places}
use Rattle.group_rows.specs.Inner.Places.{ArePlaces, rows_at}

-- the rows of a run
abbrev pub rows_in : CellRun → List Row
rows_in (Rows rows) = rows.now
rows_in (Places grid positions cells from) = rows_at grid.now positions.now cells.now from

-- how many places a run has
abbrev pub places_in : CellRun → ℕ
places_in (Rows rows) = length rows.now
places_in (Places grid positions cells from) = length positions.now

-- there is a cell for each place, which is one of the grid
abbrev pub IsRun : CellRun → Type 0
IsRun (Rows rows) = ⊤
IsRun (Places grid positions cells from) =
    IsGrid grid.now × ArePlaces grid.now positions.now × (from + length positions.now ≤ length cells.now) × (length cells.now < 2 ^ 63)
