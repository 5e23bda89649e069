-- What plans give.
use Rattle.std.specs.Prelude.{◌≡◌, Some, None}
use Rattle.cell_values.specs.declared.schema.Schema.{Schema}
use Rattle.logical_plan.specs.Faults.{fault_of}
use Rattle.logical_plan.specs.Meaning.{Meant, whole}
use Rattle.chunk_exec.specs.declared.rows.rows.answers.rows.PlanRows.{PlanRows}
use Rattle.chunk_exec.specs.declared.rows.rows.answers.rows.PlanRows.TheVariants.{Fault, Rows}

-- where and why the array is broken, or its first fault in row-major order; else its schema and its rows
abbrev pub IsFound : Meant → PlanRows → Type 0
IsFound meant (Fault broken) = fault_of meant.rows ≡ Some broken
IsFound meant (Rows schema rows) = (fault_of meant.rows ≡ None) × (meant ≡ whole schema rows)

-- rows are those of an array of this schema
abbrev pub HasSchema : Schema → PlanRows → Type 0
HasSchema shape (Fault broken) = Unit {0}
HasSchema shape (Rows schema rows) = schema ≡ shape
