-- Cells of an array by their places in a grid.
use Rattle.std.specs.Prelude.{◌≡◌, ℕ, ◌<◌, ℤ, List, [], length, map, slice_index_or}
use Rattle.std.specs.List.{AllByRecursion}
use Rattle.cell_values.specs.declared.datum.Cell.{Cell}
use Rattle.cell_values.specs.declared.datum.Cell.TheVariants.{Full}
use Rattle.cell_values.specs.declared.datum.Row.{Row}
use Rattle.array_rows.specs.Inner.CellsIn.{cells_in}
use Rattle.array_rows.specs.Rows.{placed}
use Rattle.array_geom.specs.declared.grid.Grid.{Grid}
use Rattle.array_geom.specs.Geometry.{coordinate_in, volume}
use Rattle.area_cells.specs.declared.finding.Found.{Found}

-- the cell that was found
abbrev pub found_cell : Found → Cell
found_cell found = slice_index_or (cells_in found.form.now) found.number (Full [])

-- it stands at the coordinate of its place
abbrev pub found_row : Grid → Found → Row
found_row grid found = placed (coordinate_in grid.low.items grid.lengths.items found.position) (found_cell found)

abbrev pub found_rows : Grid → List Found → List Row
found_rows grid = map (found_row grid)

-- a place of the grid, and a cell that is there
pub record IsFound (grid : Grid) (found : Found) : Type 0 where
  pub inside : found.position < volume grid.lengths.items
  pub some : found.number < length (cells_in found.form.now)

pub record AreFound (grid : Grid) (rows : List Row) (found : List Found) : Type 0 where
  pub each : AllByRecursion (IsFound grid) found
  pub rows_are : found_rows grid found ≡ rows
