-- Chunks with what others have in a box.
use Rattle.std.specs.Prelude.{◌≡◌, ℕ, List}
use Rattle.std.specs.List.{AllByRecursion}
use Rattle.cell_values.specs.declared.schema.Bounds.{Bounds}
use Rattle.cell_values.specs.declared.schema.Schema.{Schema}
use Rattle.array_rows.specs.Boxes.{within}
use Rattle.array_rows.specs.Rows.{put_all}
use Rattle.array_geom.specs.declared.chunk.Chunk.{Chunk}
use Rattle.array_geom.specs.Link.{core_rows}
use Rattle.array_parts.specs.Placed.{HasPlaces}
use Rattle.chunk_cells.specs.Whole.{CoresRise}

-- the cores have what they had, and what those of the chunks have in the box
pub record TakesCuts (schema : Schema) (margins : List ℕ) (area : Bounds) (chunks old new : List Chunk) : Type 0 where
  pub rows : core_rows schema.dimensions margins new ≡ put_all (core_rows schema.dimensions margins old)
      (within area (core_rows schema.dimensions margins chunks))
  pub places : AllByRecursion (HasPlaces schema margins) old → AllByRecursion (HasPlaces schema margins) new
  pub rise : CoresRise schema.dimensions margins old → CoresRise schema.dimensions margins new
