-- What plans give, in chunks.
use Rattle.std.specs.Prelude.{⊤}
use Rattle.array_parts.specs.Cores.{HaveCells, cores_of}
use Rattle.chunk_exec.specs.declared.rows.rows.answers.rows.PlanArray.{PlanArray}
use Rattle.chunk_exec.specs.declared.rows.rows.answers.rows.PlanArray.TheVariants.{Fault, Whole}
use Rattle.chunk_exec.specs.declared.rows.rows.answers.rows.PlanRows.{PlanRows}
use Rattle.chunk_exec.specs.declared.rows.rows.answers.rows.PlanRows.TheVariants.{Fault as OfFault, Rows}

-- the fault, or the rows of the array's cores
abbrev pub rows_held : PlanArray → PlanRows
rows_held (Fault broken) = OfFault broken
rows_held (Whole array) = Rows array.schema (cores_of array)

-- the chunks of an array have cells
abbrev pub HoldsCells : PlanArray → Type 0
HoldsCells (Fault broken) = ⊤
HoldsCells (Whole array) = HaveCells array.schema array.margins.items array.chunks
