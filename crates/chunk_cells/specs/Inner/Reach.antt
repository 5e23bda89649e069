-- What a box of chunk numbers is of a coordinate.
use Rattle.std.specs.Prelude.{◌≡◌, ℕ, List}
use Rattle.cell_values.specs.declared.schema.Dimension.{Dimension}
use Rattle.array_rows.specs.Rows.{Coordinate}
use Rattle.chunk_cells.specs.declared.assembly.near.Reached.{Reached}
use Rattle.chunk_cells.specs.Inner.Near.{near_low, near_high}

pub record Reaches (dims : List Dimension) (margins : List ℕ) (c : Coordinate) (reached : Reached) : Type 0 where
  pub low_numbers : reached.low.items ≡ near_low dims margins c
  pub high_numbers : reached.high.items ≡ near_high dims margins c
