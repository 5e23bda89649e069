use Rattle.std.proofs.Common.{◌≡◌, ◌++◌}
use Rattle.std.specs.Vec.Iter.{into_iter_items}
use Rattle.logical_plan.specs.Groups.{cells_of}
use Rattle.order_exec.proofs.sorted_cells.into_cells.Given as goal

abbrev pub invariant-loop-row : goal.invariant-loop-row
invariant-loop-row l = l.cells ++ cells_of (into_iter_items l.row-iterator) ≡ cells_of l.fn.rows
