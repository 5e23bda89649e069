-- The rows of a plan's array as they are stored, and the arrays and chunks that hold such rows.
use Rattle.std.specs.Prelude.{◌≡◌, List, None, Some, Result, Ok, Err}
use Rattle.std.specs.List.{AllByRecursion}
use Rattle.cell_values.specs.declared.datum.Broken.{Broken}
use Rattle.cell_values.specs.declared.datum.Datum.{Datum}
use Rattle.cell_values.specs.declared.datum.Row.{Row}
use Rattle.cell_values.specs.declared.schema.Schema.{Schema}
use Rattle.cell_values.specs.Cells.{AreOfKinds}
use Rattle.cell_values.specs.Schemas.{IsValid}
use Rattle.array_rows.specs.Arrays.{AreRowsOf}
use Rattle.array_rows.specs.Boxes.{bounds_of}
use Rattle.array_geom.specs.declared.chunk.Chunk.{Chunk}
use Rattle.array_geom.specs.declared.chunk.ChunkedArray.{ChunkedArray}
use Rattle.array_geom.specs.Geometry.{overlaps}
use Rattle.array_geom.specs.Link.{HoldsRows, NumbersRise, chunk_rows, core_rows, numbers}
use Rattle.array_parts.specs.Cores.{cores_of, meant_by_cores}
use Rattle.array_parts.specs.Placed.{HasPlaces}
use Rattle.logical_plan.specs.CellOps.{fit_rows}
use Rattle.logical_plan.specs.Faults.{fault_of, if_whole}
use Rattle.logical_plan.specs.Typing.{AreSound}
use Rattle.chunk_source.specs.Laws.{HasSoundCells}

-- a schema takes the rows of another one: its bounds are the same, and its attributes take the same values
pub record TakesRows (schema from : Schema) : Type 0 where
  pub bounds : bounds_of schema.dimensions ≡ bounds_of from.dimensions
  pub kinds : (vs : List Datum) → AreOfKinds from.attributes vs → AreOfKinds schema.attributes vs

-- rows that may be stored
pub record MayBeStored (schema : Schema) (rows : List Row) : Type 0 where
  pub rows_of : AreRowsOf schema rows
  pub sound : AreSound schema rows

-- what an array stands for by its cores, fitted to a schema
abbrev pub fitted_cores : Schema → ChunkedArray → Result (List Row) Broken
fitted_cores schema array = if_whole (fit_rows schema.attributes) (meant_by_cores array).rows

-- fitted rows without a fault, or the first fault
abbrev pub IsFound : Result (List Row) Broken → Result (List Row) Broken → Type 0
IsFound fitted (Ok rows) = (fitted ≡ Ok rows) × (fault_of fitted ≡ None)
IsFound fitted (Err broken) = fault_of fitted ≡ Some broken

-- an array of rows that may be stored, in chunks with the overlaps as margins
pub record CanBeStored (array : ChunkedArray) : Type 0 where
  pub margins : array.margins.items ≡ overlaps array.schema.dimensions
  pub holds : HoldsRows array.schema array (cores_of array)
  pub sound : AreSound array.schema (cores_of array)

-- an array of the schema that can be stored
pub record IsToStore (schema : Schema) (array : ChunkedArray) : Type 0 where
  pub same : array.schema ≡ schema
  pub can : CanBeStored array

-- the rows of an array that is found, or its fault
abbrev pub found_cores : Result ChunkedArray Broken → Result (List Row) Broken
found_cores (Ok array) = Ok (cores_of array)
found_cores (Err broken) = Err broken

-- chunks as they are stored, by their rising numbers, whether or not the margins of one agree with the cores of others
pub record AreStoredChunks (schema : Schema) (chunks : List Chunk) : Type 0 where
  pub valid : IsValid schema
  pub rising : NumbersRise (numbers chunks)
  pub placed : AllByRecursion (HasPlaces schema (overlaps schema.dimensions)) chunks
  pub rows_of : AllByRecursion (λ chunk. AreRowsOf schema (chunk_rows schema.dimensions (overlaps schema.dimensions) chunk)) chunks
  pub sound : AllByRecursion (HasSoundCells schema) chunks

-- the rows of their cores
abbrev pub stored_rows : Schema → List Chunk → List Row
stored_rows schema chunks = core_rows schema.dimensions (overlaps schema.dimensions) chunks
