-- Arrays that were read.
use Rattle.std.specs.Prelude.{◌≡◌, None}
use Rattle.std.specs.List.{AllByRecursion}
use Rattle.cell_values.specs.declared.schema.Schema.{Schema}
use Rattle.array_geom.specs.Chunks.{IsChunk}
use Rattle.array_geom.specs.Geometry.{overlaps}
use Rattle.array_geom.specs.declared.chunk.ChunkedArray.{ChunkedArray}
use Rattle.array_parts.specs.Placed.{HavePlaces}

-- an array of a schema in valid chunks, with its overlaps as margins, that is not broken
pub record IsRead (schema : Schema) (array : ChunkedArray) : Type 0 where
  pub schema_is : array.schema ≡ schema
  pub margins : array.margins.items ≡ overlaps schema.dimensions
  pub whole : array.broken ≡ None
  pub placed : HavePlaces array.schema array.margins.items array.chunks
  pub valid : AllByRecursion (IsChunk array.schema array.margins.items) array.chunks
