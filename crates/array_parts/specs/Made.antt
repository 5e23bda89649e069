-- Chunks whose cells have places, and what is made of them.
use Rattle.std.specs.Prelude.{◌≡◌, ℕ, ◌<◌, List, [], ◌∷◌, ◌++◌, length, Option, Some, None}
use Rattle.std.specs.List.{AllByRecursion}
use Rattle.cell_values.specs.declared.datum.Cell.{Cell}
use Rattle.cell_values.specs.declared.datum.Row.{Row}
use Rattle.cell_values.specs.declared.schema.Dimension.{Dimension}
use Rattle.array_geom.specs.declared.chunk.Chunk.{Chunk}
use Rattle.array_geom.specs.Chunks.{AreRising}
use Rattle.array_geom.specs.Geometry.{frame_lengths, volume}
use Rattle.array_geom.specs.Link.{chunk_rows}

-- as many cells as positions, which are places of the frame
pub record IsPlaced (dims : List Dimension) (margins : List ℕ) (chunk : Chunk) : Type 0 where
  pub each : length chunk.cells ≡ length chunk.positions
  pub in_frame : AllByRecursion (λ p. p < volume (frame_lengths dims margins)) chunk.positions

-- the chunk of that number with what an operator makes of its rows, those of its margins too
pub record IsMadeBy (operator : List Row → List Row) (dims : List Dimension) (margins : List ℕ) (old new : Chunk) : Type 0 where
  pub number : new.at ≡ old.at
  pub placed : IsPlaced dims margins new
  pub rising : AreRising old.positions → AreRising new.positions
  pub rows : chunk_rows dims margins new ≡ operator (chunk_rows dims margins old)

-- a chunk with a cell more, if there is one
abbrev pub with_cell : Chunk → ℕ → Option Cell → Chunk
with_cell made position None = made
with_cell made position (Some cell) = record { at = made.at; positions = made.positions ++ position ∷ []; cells = made.cells ++ cell ∷ [] }

-- a chunk with what a change makes of the first of these cells
abbrev pub with_next : (Cell → Option Cell) → ℕ → Chunk → List Cell → Chunk
with_next change position made [] = made
with_next change position made (cell ∷ cells) = with_cell made position (change cell)
