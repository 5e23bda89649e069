-- An array made of the rows of another one means what the operator makes of that one's meaning.
use Rattle.std.proofs.Common.{◌≡◌, ℕ, List, [], ◌∷◌, None, Result, Ok, sym, ap, subst, ◌∙◌}
use Rattle.std.specs.Prelude.{IfOk}
use Rattle.cell_values.specs.declared.datum.Broken.{Broken}
use Rattle.cell_values.specs.declared.datum.Row.{Row}
use Rattle.cell_values.specs.declared.memory.Memory.{Memory}
use Rattle.cell_values.specs.declared.schema.Bounds.{Bounds}
use Rattle.cell_values.specs.declared.schema.Schema.{Schema}
use Rattle.cell_values.specs.Schemas.{IsValid}
use Rattle.std.specs.List.{AllByRecursion}
use Rattle.array_rows.specs.Arrays.{AreRowsOf, Meant}
use Rattle.array_rows.specs.Boxes.{is_inside, meet, bounds_of}
use Rattle.array_rows.proofs.RowSets.{IsRising-rows_where}
use Rattle.array_geom.specs.declared.chunk.ChunkedArray.{ChunkedArray}
use Rattle.array_geom.specs.declared.chunk.Chunk.{Chunk}
use Rattle.array_geom.specs.Geometry.{core}
use Rattle.array_geom.specs.Link.{Is, chunk_rows}
use Rattle.array_parts.specs.Cores.{HasCells, HaveCells, cores_of, meant_by_cores, unless_broken}
use Rattle.array_parts.proofs.CoreLaws.{arrays_are_their_cores, arrays_have_cells, cores_are_rows}
use Rattle.chunk_cells.specs.Whole.{CoresRise, IsArray}
use Rattle.logical_plan.specs.declared.parts.Fixed.{Fixed}
use Rattle.logical_plan.specs.Faults.{if_whole}
use Rattle.logical_plan.specs.Meaning.{made}
use Rattle.logical_plan.specs.BoxOps.{subarray_rows, slice_rows}
use Rattle.logical_plan.specs.PlanSchema.{subarray_schema, slice_schema}
use Rattle.exec_box.proofs.PartLaws.{subarrays_are_arrays}
use Rattle.exec_box.proofs.SliceLaws.{slices_are_arrays}

-- ---- arrays with cells

pub rise_in_cores : (schema : Schema) (margins : List ℕ) (chunks : List Chunk) → HaveCells schema margins chunks → CoresRise schema.dimensions margins chunks
rise_in_cores schema margins chunks h = each chunks h.rows_of
  where
    each : (xs : List Chunk) → AllByRecursion (λ chunk. AreRowsOf schema (chunk_rows schema.dimensions margins chunk)) xs → CoresRise schema.dimensions margins xs
    each [] a = tt
    each (chunk ∷ xs) a = (IsRising-rows_where (is_inside (core schema.dimensions chunk.at.items)) (chunk_rows schema.dimensions margins chunk) a.0.are_rows.rising, each xs a.1)

abbrev meant_of : Schema → Result (List Row) Broken → Meant
meant_of schema rows = record { schema = schema; rows = rows }

pub means_whole : (schema_of : Schema → Schema) (rows_of : Schema → List Row → List Row) (array : ChunkedArray) (schema : Schema) (new : List Row)
    → array.broken ≡ None → schema ≡ schema_of array.schema → new ≡ rows_of array.schema (cores_of array) → meant_of schema (Ok new) ≡ made schema_of rows_of (meant_by_cores array)
means_whole schema_of rows_of array schema new none e m =
    let rows : Ok new ≡ if_whole (rows_of array.schema) (unless_broken array.broken (cores_of array)) =
    ap (λ (z : List Row). Ok z) m ∙ ap (λ b. if_whole (rows_of array.schema) (unless_broken b (cores_of array))) (sym none) in
    λ i. meant_of (e i) (rows i)

pub part_rows : (area : Bounds) (array : ChunkedArray) (schema : Schema) (new : List Row) → schema ≡ subarray_schema area array.schema → IsValid (subarray_schema area array.schema) → HaveCells array.schema array.margins.items array.chunks
    → new ≡ subarray_rows (meet (bounds_of array.schema.dimensions) area) (cores_of array) → AreRowsOf schema new
part_rows area array schema new e v h m =
    subst (λ (s : Schema). AreRowsOf s new) (sym e) (subst (AreRowsOf (subarray_schema area array.schema)) (sym m)
    (subarrays_are_arrays area array.schema (cores_of array) (cores_are_rows array.schema array.margins.items array.chunks h) v))

pub slice_are_rows : (fixed : List Fixed) (array : ChunkedArray) (schema : Schema) (new : List Row) → schema ≡ slice_schema fixed array.schema → IsValid (slice_schema fixed array.schema) → HaveCells array.schema array.margins.items array.chunks
    → new ≡ slice_rows fixed (cores_of array) → AreRowsOf schema new
slice_are_rows fixed array schema new e v h m =
    subst (λ (s : Schema). AreRowsOf s new) (sym e) (subst (AreRowsOf (slice_schema fixed array.schema)) (sym m)
    (slices_are_arrays fixed array.schema (cores_of array) (cores_are_rows array.schema array.margins.items array.chunks h) v))

-- ---- what the calls hand on

pub stands_for : (r : Result ChunkedArray Memory) (a b : Meant) → a ≡ b → IfOk r (λ made. Is made a) → IfOk r (λ made. Is made b)
stands_for r a b e h = subst (λ (m : Meant). IfOk r (λ made. Is made m)) e h

-- an array has cells, and so has its copy
pub copy_has_cells : (array copy : ChunkedArray) → copy ≡ array → IsArray array → HasCells copy
copy_has_cells array copy e is = subst HasCells (sym e) (arrays_have_cells array is.0 is.1)

-- what is made of what the cores of a copy hold is made of what the array stands for
pub of_copy : (operator : Meant → Meant) (array copy : ChunkedArray) (meant : Meant) (r : Result ChunkedArray Memory) → copy ≡ array → Is array meant → IfOk r (λ made. Is made (operator (meant_by_cores copy))) → IfOk r (λ made. Is made (operator meant))
of_copy operator array copy meant r e is h = stands_for r (operator (meant_by_cores copy)) (operator meant) (ap operator (ap meant_by_cores e ∙ arrays_are_their_cores array meant is)) h
