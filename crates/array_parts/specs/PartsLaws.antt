-- Laws of chunks that are parts of rows.
use Rattle.std.specs.Prelude.{◌≡◌, ℕ, List, length, filter, Option}
use Rattle.std.specs.List.{AllZip}
use Rattle.cell_values.specs.declared.datum.Cell.{Cell}
use Rattle.cell_values.specs.declared.datum.Row.{Row}
use Rattle.cell_values.specs.declared.schema.Bounds.{Bounds}
use Rattle.cell_values.specs.declared.schema.Dimension.{Dimension}
use Rattle.array_geom.specs.Arrays.{Meant}
use Rattle.array_geom.specs.Boxes.{within}
use Rattle.array_geom.specs.Cellwise.{cell_wise}
use Rattle.array_geom.specs.Rows.{Coordinate}
use Rattle.array_geom.specs.declared.chunk.Chunk.{Chunk}
use Rattle.array_geom.specs.declared.chunk.ChunkedArray.{ChunkedArray}
use Rattle.array_geom.specs.Link.{AreChunksOf, Is}
use Rattle.array_parts.specs.Made.{IsMadeBy}
use Rattle.array_parts.specs.Parts.{AreParts, holds_cell, IsLocal}
use Rattle.array_parts.specs.Placed.{IsSound}

-- the chunks of an array have places
abbrev pub ArraysAreSound : Type 0
ArraysAreSound = (array : ChunkedArray) (meant : Meant) → Is array meant → IsSound array

-- the chunks of an array are parts, and of parts those whose core holds a cell are the chunks of an array
abbrev pub ChunksAreParts : Type 0
ChunksAreParts = (dims : List Dimension) (margins : List ℕ) (rows : List Row) (chunks : List Chunk)
    → AreChunksOf dims margins rows chunks → AreParts dims margins rows chunks

abbrev pub HeldPartsAreChunks : Type 0
HeldPartsAreChunks = (dims : List Dimension) (margins : List ℕ) (rows : List Row) (chunks : List Chunk)
    → AreParts dims margins rows chunks → length margins ≡ length dims
    → AreChunksOf dims margins rows (filter (holds_cell dims margins) chunks)

-- what a local operator makes of parts are parts of what it makes of the rows
abbrev pub MadePartsAreParts : Type 0
MadePartsAreParts = (operator : List Row → List Row) (dims : List Dimension) (margins : List ℕ) (rows : List Row) (old new : List Chunk)
    → IsLocal operator → AreParts dims margins rows old → AllZip (IsMadeBy operator dims margins) old new → AreParts dims margins (operator rows) new

-- changes cell by cell and cuts to boxes are local
abbrev pub ChangesAreLocal : Type 0
ChangesAreLocal = (change : Coordinate → Cell → Option Cell) → IsLocal (cell_wise change)

abbrev pub CutsAreLocal : Type 0
CutsAreLocal = (area : Bounds) → IsLocal (within area)
