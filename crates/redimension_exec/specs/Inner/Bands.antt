-- Chunks whose rows are found band by band.
use Rattle.std.specs.Prelude.{ℕ, ◌<◌, ◌^◌, List, length}
use Rattle.cell_values.specs.declared.schema.Schema.{Schema}
use Rattle.array_geom.specs.declared.chunk.Chunk.{Chunk}
use Rattle.array_geom.specs.Link.{core_rows}
use Rattle.array_parts.specs.Placed.{HavePlaces}
use Rattle.chunk_cells.specs.Whole.{CoresRise}

-- the rows of each core rise, and can be counted
pub record AreBands (source : Schema) (margins : List ℕ) (chunks : List Chunk) : Type 0 where
  pub places : HavePlaces source margins chunks
  pub cores : CoresRise source.dimensions margins chunks
  pub counted : length (core_rows source.dimensions margins chunks) < 2 ^ 63
