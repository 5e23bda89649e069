-- The chunks into which an array can be cut.
use Rattle.std.specs.Prelude.{◌≡◌, ℕ, ◌≤◌, ◌^◌, List, [], ◌∷◌, ◌++◌, length, IsTrue}
use Rattle.std.specs.List.{AllByRecursion}
use Rattle.cell_values.specs.declared.datum.Row.{Row}
use Rattle.cell_values.specs.declared.schema.Dimension.{Dimension}
use Rattle.cell_values.specs.declared.schema.Schema.{Schema}
use Rattle.cell_values.specs.Schemas.{IsValid}
use Rattle.array_geom.specs.Geometry.{ChunkNumber, frame_lengths, has_core, volume}
use Rattle.array_geom.specs.Link.{IsPart}
use Rattle.array_geom.specs.declared.chunk.Chunk.{Chunk}

-- a valid schema, with a margin for each dimension and at most 2^48 places in a frame
pub record HasFrames (schema : Schema) (margins : List ℕ) : Type 0 where
  pub valid : IsValid schema
  pub each : length margins ≡ length schema.dimensions
  pub places : volume (frame_lengths schema.dimensions margins) ≤ 2 ^ 48

-- each number is that of a chunk of the array
abbrev pub AreFramed : List Dimension → List ChunkNumber → Type 0
AreFramed dims = AllByRecursion (λ k. IsTrue (has_core dims k))

-- a chunk that was its part of some rows is its part of these and one more
pub record TakesRow (schema : Schema) (margins : List ℕ) (row : Row) (old new : Chunk) : Type 0 where
  pub number : new.at ≡ old.at
  pub part : (rows : List Row) → IsPart schema.dimensions margins rows old → IsPart schema.dimensions margins (rows ++ row ∷ []) new

-- the same of all chunks
abbrev pub TakeRow : Schema → List ℕ → Row → List Chunk → List Chunk → Type 0
TakeRow schema margins row old new = (rows : List Row) → AllByRecursion (IsPart schema.dimensions margins rows) old
    → AllByRecursion (IsPart schema.dimensions margins (rows ++ row ∷ [])) new

abbrev pub HasNoCells : Chunk → Type 0
HasNoCells chunk = (chunk.positions ≡ []) × (chunk.cells ≡ [])
