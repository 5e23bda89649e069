-- Cells of two arrays, by their places in one grid, that are being joined.
use Rattle.std.specs.Prelude.{◌≡◌, ℕ, ◌<◌, List, drop, length}
use Rattle.std.specs.List.{AllByRecursion}
use Rattle.array_geom.specs.declared.chunk.Chunk.{Chunk}
use Rattle.array_geom.specs.declared.grid.Grid.{Grid}
use Rattle.array_geom.specs.Geometry.{volume}
use Rattle.array_geom.specs.Link.{rows_in}
use Rattle.area_cells.specs.declared.finding.Found.{Found}
use Rattle.area_cells.specs.Found.{found_rows}
use Rattle.exec_join.specs.Inner.Beside.{IsMove}

-- with what is left of both the chunk stands for the same joined rows as before
pub record Meets (grid : Grid) (left right : List Found) (made : Chunk) (at_left at_right : ℕ) (made' : Chunk) (at_left' at_right' : ℕ) : Type 0 where
  pub number : made'.at ≡ made.at
  pub each : length made.cells ≡ length made.positions → length made'.cells ≡ length made'.positions
  pub inside : AllByRecursion (λ p. p < volume grid.lengths.items) made.positions → AllByRecursion (λ p. p < volume grid.lengths.items) made'.positions
  pub rows : length made.cells ≡ length made.positions
      → IsMove (rows_in grid.low.items grid.lengths.items made.positions made.cells) (found_rows grid (drop at_left left)) (found_rows grid (drop at_right right))
      (rows_in grid.low.items grid.lengths.items made'.positions made'.cells) (found_rows grid (drop at_left' left)) (found_rows grid (drop at_right' right))
