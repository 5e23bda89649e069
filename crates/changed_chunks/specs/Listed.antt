-- The chunks of an array that a source lists.
use Rattle.std.specs.Prelude.{ℕ, Bool, ◌==◌, List, filter, length}
use Rattle.arrayvec.specs.ArrayVec.{ArrayVec}
use Rattle.cell_values.specs.declared.schema.Dimension.{Dimension}
use Rattle.array_geom.specs.Geometry.{ChunkNumber}
use Rattle.logical_plan.specs.declared.parts.Leaf.{Leaf}
use Rattle.chunk_source.specs.Source.{SourceState, listed, numbers_of}

-- a chunk's number has a place for each dimension
abbrev pub is_sized : List Dimension → ArrayVec ℕ → Bool
is_sized dims at = length at.items == length dims

-- numbers of another size are no chunk's
abbrev pub chunks_among : List Dimension → List (ArrayVec ℕ) → List ChunkNumber
chunks_among dims numbers = numbers_of (filter (is_sized dims) numbers)

-- those that a source lists of a leaf
abbrev pub listed_chunks : SourceState → Leaf → List ChunkNumber
listed_chunks source leaf = chunks_among leaf.schema.dimensions (listed source leaf)
