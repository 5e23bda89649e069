-- Laws of arrays by their cores.
use Rattle.std.specs.Prelude.{◌≡◌, ℕ, List}
use Rattle.std.specs.List.{AllByRecursion}
use Rattle.cell_values.specs.declared.schema.Schema.{Schema}
use Rattle.array_geom.specs.Arrays.{AreRowsOf, Meant}
use Rattle.array_geom.specs.declared.chunk.Chunk.{Chunk}
use Rattle.array_geom.specs.declared.chunk.ChunkedArray.{ChunkedArray}
use Rattle.array_geom.specs.Chunks.{IsChunk}
use Rattle.array_geom.specs.Link.{Is, core_rows}
use Rattle.array_parts.specs.Placed.{HavePlaces}
use Rattle.array_parts.specs.Cores.{HaveCells, HasCells, meant_by_cores}

-- the chunks of whatever stands for an array have cells, and it stands for what its cores hold
abbrev pub ArraysHaveCells : Type 0
ArraysHaveCells = (array : ChunkedArray) (meant : Meant) → Is array meant → HasCells array

abbrev pub ArraysAreTheirCores : Type 0
ArraysAreTheirCores = (array : ChunkedArray) (meant : Meant) → Is array meant → meant_by_cores array ≡ meant

-- the rows of the cores are those of an array, whatever the margins hold
abbrev pub CoresAreRows : Type 0
CoresAreRows = (schema : Schema) (margins : List ℕ) (chunks : List Chunk) → HaveCells schema margins chunks
    → AreRowsOf schema (core_rows schema.dimensions margins chunks)

-- valid chunks have cells
abbrev pub ValidChunksHaveCells : Type 0
ValidChunksHaveCells = (schema : Schema) (margins : List ℕ) (chunks : List Chunk) → HavePlaces schema margins chunks
    → AllByRecursion (IsChunk schema margins) chunks → HaveCells schema margins chunks
