use Rattle.std.proofs.Common.{◌≡◌, List, take}
use Rattle.std.specs.List.{AllZip}
use Rattle.cell_values.specs.declared.datum.Row.{Row}
use Rattle.array_rows.specs.Rows.{IsRising}
use Rattle.logical_plan.specs.Groups.{cells_of}
use Rattle.redimension_exec.specs.Inner.Dense.{IsColumn, landed_there}
use Rattle.redimension_exec.proofs.dense.columns.columns_of.Given as goal

abbrev pub invariant-loop-aggregate : goal.invariant-loop-aggregate
invariant-loop-aggregate l = (rows : List Row) → IsRising rows → cells_of rows ≡ l.cells
    → AllZip (λ g states. IsColumn g l.to (landed_there l.to l.targets rows) states) (take l.aggregate-index l.aggregates) l.columns
