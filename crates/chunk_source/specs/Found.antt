-- Arrays in memory, by the name and the version of their leaves.
use Rattle.std.specs.Prelude.{◌≡◌, ℕ, Bool, ◌&&◌, ◌==◌, List, [], map, Option, Some, None, ◌⊎◌}
use Rattle.std.specs.List.{find}
use Rattle.std.specs.Option.{option_map}
use Rattle.std.specs.Str.{bytes_eq}
use Rattle.arrayvec.specs.ArrayVec.{ArrayVec}
use Rattle.cell_values.specs.declared.datum.Row.{Row}
use Rattle.cell_values.specs.declared.schema.Schema.{Schema}
use Rattle.array_geom.specs.declared.chunk.Chunk.{Chunk}
use Rattle.array_geom.specs.Geometry.{overlaps}
use Rattle.array_geom.specs.Link.{core_rows, HoldsRows}
use Rattle.logical_plan.specs.declared.parts.Leaf.{Leaf}
use Rattle.logical_plan.specs.Meaning.{Database, version_rows}
use Rattle.logical_plan.specs.Typing.{AreSound}
use Rattle.chunk_source.specs.Source.{version_chunks}
use Rattle.chunk_source.specs.declared.memory.leaf_array.LeafArray.{LeafArray}

-- the rows of an array: the core cells of its chunks
abbrev pub rows_of : LeafArray → List Row
rows_of stored = core_rows stored.leaf.schema.dimensions stored.array.margins.items stored.array.chunks

-- an array as it is stored: of its leaf's schema, with the overlaps as margins, whole, and without a fault or a null where none may
-- be
pub record IsStoredArray (stored : LeafArray) : Type 0 where
  pub schema : stored.array.schema ≡ stored.leaf.schema
  pub margins : stored.array.margins.items ≡ overlaps stored.leaf.schema.dimensions
  pub rows : HoldsRows stored.leaf.schema stored.array (rows_of stored)
  pub sound : AreSound stored.leaf.schema (rows_of stored)

abbrev pub is_of : List ℕ → ℕ → LeafArray → Bool
is_of name version stored = bytes_eq stored.leaf.name name && (stored.leaf.version == version)

-- the array of a version of a name, the first one where there are several
abbrev pub array_of : List LeafArray → List ℕ → ℕ → Option LeafArray
array_of arrays name version = find (is_of name version) arrays

abbrev pub schema_of : Option LeafArray → Option Schema
schema_of None = None
schema_of (Some stored) = Some stored.leaf.schema

abbrev pub numbers_in : List Chunk → List (ArrayVec ℕ)
numbers_in = map (λ chunk. chunk.at)

abbrev pub chunks_of : Option LeafArray → List (ArrayVec ℕ)
chunks_of None = []
chunks_of (Some stored) = numbers_in stored.array.chunks

abbrev pub rows_found : Option LeafArray → List Row
rows_found None = []
rows_found (Some stored) = rows_of stored

-- the database of these arrays: a version that is not among them has no rows
abbrev pub database_of : List LeafArray → Database
database_of arrays name version = rows_found (array_of arrays name version)

-- ---- leaves

-- the leaf is of version 0, or one of the arrays
abbrev pub IsRead : List LeafArray → Leaf → Type 0
IsRead arrays leaf = (leaf.version ≡ 0) ⊎ (schema_of (array_of arrays leaf.name leaf.version) ≡ Some leaf.schema)

abbrev pub listed_of : List LeafArray → Leaf → List (ArrayVec ℕ)
listed_of arrays leaf = version_chunks (λ name version. chunks_of (array_of arrays name version)) leaf.name leaf.version

abbrev pub leaf_rows : List LeafArray → Leaf → List Row
leaf_rows arrays leaf = version_rows (database_of arrays) leaf.name leaf.version
