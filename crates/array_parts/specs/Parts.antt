-- Chunks that are parts of rows, and may hold no cell in their cores.
use Rattle.std.specs.Prelude.{◌≡◌, ℕ, Bool, List, [], length, IsTrue}
use Rattle.std.specs.List.{AllByRecursion}
use Rattle.cell_values.specs.declared.datum.Row.{Row}
use Rattle.cell_values.specs.declared.schema.Bounds.{Bounds}
use Rattle.cell_values.specs.declared.schema.Dimension.{Dimension}
use Rattle.array_geom.specs.Boxes.{within}
use Rattle.array_geom.specs.declared.chunk.Chunk.{Chunk}
use Rattle.array_geom.specs.Geometry.{ChunkNumber, core}
use Rattle.array_geom.specs.Link.{chunk_rows, IsPart, NumbersRise, numbers, is_listed, is_not_empty, has_cell}

-- chunks by their rising numbers, one at least for each core that holds a cell, each its part of the rows
pub record AreParts (dims : List Dimension) (margins : List ℕ) (rows : List Row) (chunks : List Chunk) : Type 0 where
  pub in_order : NumbersRise (numbers chunks)
  pub sized : AllByRecursion (λ k. length k ≡ length dims) (numbers chunks)
  pub enough : (k : ChunkNumber) → length k ≡ length dims → IsTrue (has_cell dims rows k) → IsTrue (is_listed k (numbers chunks))
  pub parts : AllByRecursion (IsPart dims margins rows) chunks

-- the chunk's core holds a cell
abbrev pub holds_cell : List Dimension → List ℕ → Chunk → Bool
holds_cell dims margins chunk = is_not_empty (within (core dims chunk.at.items) (chunk_rows dims margins chunk))

-- an operator that makes the rows of a box of the rows there, and none of none
pub record IsLocal (operator : List Row → List Row) : Type 0 where
  pub boxes : (area : Bounds) (rows : List Row) → within area (operator rows) ≡ operator (within area rows)
  pub none : operator [] ≡ []
