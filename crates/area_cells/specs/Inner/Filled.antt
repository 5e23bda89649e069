-- A chunk whose cells are rows, by their places in a grid.
use Rattle.std.specs.Prelude.{◌≡◌, ℕ, ◌<◌, ℤ, List, length}
use Rattle.std.specs.List.{AllByRecursion}
use Rattle.cell_values.specs.declared.datum.Row.{Row}
use Rattle.array_geom.specs.declared.chunk.Chunk.{Chunk}
use Rattle.array_geom.specs.Geometry.{volume}
use Rattle.array_geom.specs.Link.{rows_in}

pub record IsFilled (low : List ℤ) (lengths : List ℕ) (rows : List Row) (chunk : Chunk) : Type 0 where
  pub each : length chunk.cells ≡ length chunk.positions
  pub in_grid : AllByRecursion (λ p. p < volume lengths) chunk.positions
  pub cells : rows_in low lengths chunk.positions chunk.cells ≡ rows
