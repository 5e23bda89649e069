-- The chunk of a number that holds the rows in its frame.
use Rattle.std.specs.Prelude.{◌≡◌, ℕ, List}
use Rattle.arrayvec.specs.ArrayVec.{ArrayVec}
use Rattle.cell_values.specs.declared.datum.Row.{Row}
use Rattle.cell_values.specs.declared.schema.Schema.{Schema}
use Rattle.array_geom.specs.declared.chunk.Chunk.{Chunk}
use Rattle.array_geom.specs.Link.{IsPart}
use Rattle.array_parts.specs.Placed.{HasPlaces}

pub record IsPartAt (schema : Schema) (margins : List ℕ) (rows : List Row) (number : ArrayVec ℕ) (chunk : Chunk) : Type 0 where
  pub number_is : chunk.at ≡ number
  pub places : HasPlaces schema margins chunk
  pub part : IsPart schema.dimensions margins rows chunk
