-- Cells by their places in a grid that are being put together.
use Rattle.std.specs.Prelude.{ℕ, List, drop}
use Rattle.std.specs.List.{AllByRecursion}
use Rattle.array_geom.specs.declared.grid.Grid.{Grid}
use Rattle.chunk_cells.specs.Inner.Merging.{IsMergedOn}
use Rattle.area_cells.specs.declared.finding.Found.{Found}
use Rattle.area_cells.specs.Found.{IsFound, found_rows}

-- with what is left of both they stand for the same rows as before
pub record Goes (grid : Grid) (left right made : List Found) (at_left at_right : ℕ) (made' : List Found) (at_left' at_right' : ℕ) : Type 0 where
  pub each : AllByRecursion (IsFound grid) made → AllByRecursion (IsFound grid) made'
  pub rows : IsMergedOn (found_rows grid made) (found_rows grid (drop at_left left)) (found_rows grid (drop at_right right))
      (found_rows grid made') (found_rows grid (drop at_left' left)) (found_rows grid (drop at_right' right))
