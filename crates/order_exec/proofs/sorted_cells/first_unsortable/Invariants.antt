use Rattle.std.proofs.Common.{◌≡◌, None, take}
use Rattle.logical_plan.specs.Groups.{first_some}
use Rattle.logical_plan.specs.Ordered.{unsortable_at}
use Rattle.order_exec.proofs.sorted_cells.first_unsortable.Given as goal

abbrev pub invariant-loop-row : goal.invariant-loop-row
invariant-loop-row l = first_some (unsortable_at l.keys) (take l.row-index l.rows) ≡ None
