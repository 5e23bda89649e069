-- Arrays that an operator makes chunk by chunk.
use Rattle.std.specs.Prelude.{◌≡◌, ℕ, List, filter, None}
use Rattle.std.specs.List.{AllZip}
use Rattle.cell_values.specs.declared.datum.Row.{Row}
use Rattle.cell_values.specs.declared.schema.Dimension.{Dimension}
use Rattle.cell_values.specs.declared.schema.Schema.{Schema}
use Rattle.array_rows.specs.Arrays.{AreRowsOf}
use Rattle.array_geom.specs.declared.chunk.Chunk.{Chunk}
use Rattle.array_geom.specs.declared.chunk.ChunkedArray.{ChunkedArray}
use Rattle.array_geom.specs.Link.{AreChunksOf}
use Rattle.array_parts.specs.Made.{IsMadeBy}
use Rattle.array_parts.specs.Parts.{holds_cell}
use Rattle.array_parts.specs.Cores.{HasCells}

-- what an operator makes of chunks: a chunk of each, and of these the ones whose core holds a cell
pub record AreMadeOf (operator : List Row → List Row) (dims : List Dimension) (margins : List ℕ) (old new : List Chunk) : Type 0 where
  pub made : List Chunk
  pub each : AllZip (IsMadeBy operator dims margins) old made
  pub held : new ≡ filter (holds_cell dims margins) made

-- of the rows of one schema the operator makes rows of another
abbrev pub GivesRows : (List Row → List Row) → Schema → Schema → Type 0
GivesRows operator from to = (rows : List Row) → AreRowsOf from rows → AreRowsOf to (operator rows)

-- An array of this schema and the old margins, which is broken where the old one is. Its cells are rows of the schema where the operator gives
-- such rows. Whatever rows the old chunks hold, the new ones hold what the operator makes of them.
pub record IsMadeOf (operator : List Row → List Row) (schema : Schema) (old new : ChunkedArray) : Type 0 where
  pub schema_is : new.schema ≡ schema
  pub margins : new.margins ≡ old.margins
  pub broken : new.broken ≡ old.broken
  pub cells : GivesRows operator old.schema schema → HasCells new
  pub chunks : old.broken ≡ None → (rows : List Row) → AreChunksOf schema.dimensions new.margins.items rows old.chunks
      → AreChunksOf schema.dimensions new.margins.items (operator rows) new.chunks
