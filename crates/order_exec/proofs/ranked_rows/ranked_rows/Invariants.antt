use Rattle.logical_plan.specs.Ordered.{rank_cell}
use Rattle.order_exec.proofs.RankedRowsLaws.{RankedSoFar}
use Rattle.order_exec.proofs.ranked_rows.ranked_rows.Given as goal

abbrev pub invariant-loop-k : goal.invariant-loop-k
invariant-loop-k l = RankedSoFar (rank_cell l.attribute l.dims l.fn.rows) l.fn.rows l.k l.made
