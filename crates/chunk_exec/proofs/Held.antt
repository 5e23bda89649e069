-- The rows that an array holds are those of its schema.
use Rattle.std.proofs.Common.{List, Result, Ok, Err, subst}
use Rattle.std.specs.Prelude.{IfOk}
use Rattle.cell_values.specs.declared.datum.Broken.{Broken}
use Rattle.cell_values.specs.declared.datum.Row.{Row}
use Rattle.cell_values.specs.declared.schema.Schema.{Schema}
use Rattle.array_rows.specs.Arrays.{AreRowsOf}
use Rattle.array_geom.specs.declared.chunk.ChunkedArray.{ChunkedArray}
use Rattle.array_geom.specs.Link.{HoldsResult}
use Rattle.logical_plan.specs.Meaning.{meaning}
use Rattle.logical_plan.proofs.SchemaLaws.{meaning_schema}
use Rattle.plan_changes.specs.Databases.{rows_of}
use Rattle.chunk_exec.specs.ComputedLaws.{ComputedPlansMeanArrays}

held : (schema : Schema) (array : ChunkedArray) (r : Result (List Row) Broken) → HoldsResult schema array r → IfOk r (AreRowsOf schema)
held schema array (Ok rows) h = h.rows_of
held schema array (Err broken) h = tt

pub computed : ComputedPlansMeanArrays
computed db plan array is =
    subst (λ (s : Schema). IfOk (meaning (rows_of db) plan).rows (AreRowsOf s)) (meaning_schema (rows_of db) plan) (held (meaning (rows_of db) plan).schema array (meaning (rows_of db) plan).rows is.cells)
