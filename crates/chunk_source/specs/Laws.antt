-- Laws of the chunks of arrays that hold rows.
use Rattle.std.specs.Prelude.{List, IsTrue}
use Rattle.std.specs.List.{AllByRecursion}
use Rattle.cell_values.specs.declared.datum.Row.{Row}
use Rattle.cell_values.specs.declared.schema.Schema.{Schema}
use Rattle.array_geom.specs.declared.chunk.Chunk.{Chunk}
use Rattle.array_geom.specs.declared.chunk.ChunkedArray.{ChunkedArray}
use Rattle.array_geom.specs.Chunks.{IsChunk}
use Rattle.array_geom.specs.Link.{HoldsRows}
use Rattle.logical_plan.specs.Typing.{is_sound, AreSound}

-- each chunk of an array that holds rows is valid
abbrev pub ChunksAreValid : Type 0
ChunksAreValid = (schema : Schema) (array : ChunkedArray) (rows : List Row) → HoldsRows schema array rows
    → AllByRecursion (IsChunk schema array.margins.items) array.chunks

-- a chunk without a fault, and without a null where none may be
abbrev pub HasSoundCells : Schema → Chunk → Type 0
HasSoundCells schema chunk = AllByRecursion (λ cell. IsTrue (is_sound schema.attributes cell)) chunk.cells

-- sound rows stand in sound chunks
abbrev pub SoundRowsHaveSoundChunks : Type 0
SoundRowsHaveSoundChunks = (schema : Schema) (array : ChunkedArray) (rows : List Row) → HoldsRows schema array rows
    → AreSound schema rows → AllByRecursion (HasSoundCells schema) array.chunks
