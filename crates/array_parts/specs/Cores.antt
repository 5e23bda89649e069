-- Arrays by their cores: chunks whose cells are rows of the schema, whether or not the margins of one agree with the cores of others.
use Rattle.std.specs.Prelude.{◌≡◌, ℕ, List, Option, Some, None, Result, Ok, Err}
use Rattle.std.specs.List.{AllByRecursion}
use Rattle.cell_values.specs.declared.datum.Broken.{Broken}
use Rattle.cell_values.specs.declared.datum.Row.{Row}
use Rattle.cell_values.specs.declared.schema.Schema.{Schema}
use Rattle.array_geom.specs.Arrays.{AreRowsOf, Meant}
use Rattle.array_geom.specs.declared.chunk.Chunk.{Chunk}
use Rattle.array_geom.specs.declared.chunk.ChunkedArray.{ChunkedArray}
use Rattle.array_geom.specs.Link.{chunk_rows, core_rows}
use Rattle.array_parts.specs.Placed.{HavePlaces}

-- chunks with places, each of whose cells, those of its margins too, are rows of the schema
pub record HaveCells (schema : Schema) (margins : List ℕ) (chunks : List Chunk) : Type 0 where
  pub placed : HavePlaces schema margins chunks
  pub rows_of : AllByRecursion (λ chunk. AreRowsOf schema (chunk_rows schema.dimensions margins chunk)) chunks

-- an array that is not broken has such chunks
abbrev pub HasCells : ChunkedArray → Type 0
HasCells array = array.broken ≡ None → HaveCells array.schema array.margins.items array.chunks

-- the rows of an array's cores, put together
abbrev pub cores_of : ChunkedArray → List Row
cores_of array = core_rows array.schema.dimensions array.margins.items array.chunks

abbrev pub unless_broken : Option Broken → List Row → Result (List Row) Broken
unless_broken None rows = Ok rows
unless_broken (Some broken) rows = Err broken

-- what an array stands for by its cores alone: their rows, or what broke it
abbrev pub meant_by_cores : ChunkedArray → Meant
meant_by_cores array = record { schema = array.schema; rows = unless_broken array.broken (cores_of array) }
