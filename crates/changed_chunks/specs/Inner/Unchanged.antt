-- Arrays whose chunks are stored as they are.
use Rattle.std.specs.Prelude.{◌≡◌, ◌⊎◌, ℕ, suc, ℤ, ◌<◌, List, [], ◌∷◌, length, map, slice_index_or, None, IsTrue, ⊤}
use Rattle.std.specs.List.{AllByRecursion}
use Rattle.cell_values.specs.declared.datum.Cell.{Cell}
use Rattle.cell_values.specs.declared.datum.Cell.TheVariants.{Full}
use Rattle.cell_values.specs.declared.datum.Datum.TheVariants.{Int}
use Rattle.cell_values.specs.declared.schema.Attribute.{Attribute}
use Rattle.cell_values.specs.declared.schema.Schema.{Schema}
use Rattle.array_geom.specs.Geometry.{overlaps}
use Rattle.array_geom.specs.declared.chunk.Chunk.{Chunk}
use Rattle.array_geom.specs.declared.chunk.ChunkedArray.{ChunkedArray}
use Rattle.array_parts.specs.Parts.{holds_cell}
use Rattle.array_rows.specs.CellFaults.{fault_of_cell}
use Rattle.array_rows.specs.Inner.CellsIn.{value_in}
use Rattle.logical_plan.specs.Typing.{is_sound}

-- the values in a place of all cells are numbers
abbrev pub AreNumbersAt : ℕ → List Cell → Type 0
AreNumbersAt place cells = (numbers : List ℤ) × (map (value_in place) cells ≡ map Int numbers)

-- and so are those in the first places
abbrev pub AreNumbers : ℕ → List Cell → Type 0
AreNumbers count cells = (place : ℕ) → place < count → AreNumbersAt place cells

-- the values in a place may be null, or are numbers
abbrev pub MayStandAt : Attribute → ℕ → List Cell → Type 0
MayStandAt attribute place cells = IsTrue attribute.nullable ⊎ AreNumbersAt place cells

abbrev pub MayStandFrom : ℕ → List Attribute → List Cell → Type 0
MayStandFrom place [] cells = ⊤
MayStandFrom place (attribute ∷ attributes) cells = MayStandAt attribute place cells × MayStandFrom (suc place) attributes cells

abbrev pub HaveNoFault : List Cell → Type 0
HaveNoFault cells = (k : ℕ) → k < length cells → fault_of_cell (slice_index_or cells k (Full [])) ≡ None

-- a chunk with a cell in its core, none of whose cells has a fault, or a null where none may be
pub record IsStorableChunk (schema : Schema) (margins : List ℕ) (chunk : Chunk) : Type 0 where
  pub held : IsTrue (holds_cell schema.dimensions margins chunk)
  pub sound : AllByRecursion (λ cell. IsTrue (is_sound schema.attributes cell)) chunk.cells

-- an array of the schema in such chunks, with the overlaps as margins
pub record IsStorable (schema : Schema) (array : ChunkedArray) : Type 0 where
  pub whole : array.broken ≡ None
  pub some : 0 < length schema.attributes
  pub same : array.schema ≡ schema
  pub margins : array.margins.items ≡ overlaps schema.dimensions
  pub chunks : AllByRecursion (IsStorableChunk array.schema array.margins.items) array.chunks
