-- Cells of a chunk that are being looked through.
use Rattle.std.specs.Prelude.{◌≡◌, ℕ, List, ◌++◌, drop}
use Rattle.std.specs.List.{AllByRecursion}
use Rattle.cell_values.specs.declared.datum.Cell.{Cell}
use Rattle.cell_values.specs.declared.datum.Row.{Row}
use Rattle.cell_values.specs.declared.schema.Bounds.{Bounds}
use Rattle.array_rows.specs.Boxes.{within}
use Rattle.array_geom.specs.declared.grid.Grid.{Grid}
use Rattle.array_geom.specs.Link.{rows_in}
use Rattle.area_cells.specs.declared.finding.Found.{Found}
use Rattle.area_cells.specs.Found.{IsFound, found_rows}

-- the rows of the cells from an index on that are in both boxes
abbrev pub rows_left : Grid → Bounds → Bounds → List ℕ → List Cell → ℕ → List Row
rows_left source core area places cells at = within area (within core (rows_in source.low.items source.lengths.items (drop at places) (drop at cells)))

-- with those from this index on, what was found are all
pub record IsTaken (source target : Grid) (core area : Bounds) (places : List ℕ) (cells : List Cell) (found : List Found) (at : ℕ) : Type 0 where
  pub each : AllByRecursion (IsFound target) found
  pub rows_are : found_rows target found ++ rows_left source core area places cells at ≡ rows_left source core area places cells 0
