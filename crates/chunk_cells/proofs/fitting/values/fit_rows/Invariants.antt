use Rattle.std.proofs.Common.{◌≡◌, ◌++◌, length}
use Rattle.std.specs.List.{AllByRecursion}
use Rattle.logical_plan.specs.CellOps.{fit_rows}
use Rattle.chunk_cells.specs.Fitted.{HasValues}
use Rattle.chunk_cells.proofs.fitting.values.fit_rows.Given as goal

abbrev pub invariant-loop-row : goal.invariant-loop-row
invariant-loop-row l = record {
  same : l.fitted ++ fit_rows l.attributes l.rows.items ≡ fit_rows l.attributes l.initial.rows.items;
  left : AllByRecursion (λ row. HasValues l.attributes row.cell) l.rows.items;
}

abbrev pub decreases-loop-row : goal.decreases-loop-row
decreases-loop-row l = length l.rows.items
