-- Chunks that hold rows, told in row-major order.
use Rattle.std.specs.Prelude.{◌≡◌, ℕ, List}
use Rattle.std.specs.BTreeMap.{BTreeMap}
use Rattle.std.specs.List.{AllByRecursion}
use Rattle.arrayvec.specs.ArrayVec.{ArrayVec}
use Rattle.cell_values.specs.declared.datum.Row.{Row}
use Rattle.cell_values.specs.declared.schema.Schema.{Schema}
use Rattle.array_rows.specs.Arrays.{AreRowsOf}
use Rattle.array_rows.specs.Rows.{in_order}
use Rattle.array_geom.specs.declared.chunk.Chunk.{Chunk}
use Rattle.array_geom.specs.Geometry.{HasFrame}
use Rattle.array_geom.specs.Link.{IsPart, chunk_rows}
use Rattle.array_parts.specs.Made.{IsPlaced}
use Rattle.chunk_cells.specs.Fitted.{HasValues}
use Rattle.logical_plan.specs.CellOps.{fit_rows}
use Rattle.redimension_exec.specs.Inner.Filling.{AreHeld}
use Rattle.redimension_exec.specs.Inner.Sorting.{AreDifferent}

-- in row-major order, the values fitted to the attributes
abbrev pub told_rows : Schema → List Row → List Row
told_rows target rows = fit_rows target.attributes (in_order rows)

-- a chunk whose rows can be told: none stands where another does, and in order they have the attributes' values
pub record CanBeTold (target : Schema) (margins : List ℕ) (made : List Row) (chunk : Chunk) : Type 0 where
  pub framed : HasFrame target margins chunk.at.items
  pub part : IsPart target.dimensions margins made chunk
  pub apart : AreDifferent made
  pub values : AllByRecursion (λ row. HasValues target.attributes row.cell) (in_order made)

-- the chunk with its rows in order
pub record IsToldOf (target : Schema) (margins : List ℕ) (chunk told : Chunk) : Type 0 where
  pub at : told.at ≡ chunk.at
  pub placed : IsPlaced target.dimensions margins told
  pub rows : chunk_rows target.dimensions margins told ≡ told_rows target (chunk_rows target.dimensions margins chunk)

-- chunks that hold rows at different coordinates, which are in order those of an array of the target
pub record CanTell (target : Schema) (chunks : BTreeMap (ArrayVec ℕ) Chunk) : Type 0 where
  pub made : List Row
  pub held : AreHeld target made chunks
  pub apart : AreDifferent made
  pub rows_of : AreRowsOf target (in_order made)
