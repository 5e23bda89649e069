use Rattle.std.proofs.Common.{length}
use Rattle.area_cells.proofs.CountLaws.{IsCounted}
use Rattle.order_exec.proofs.column_ranks.count_cells.Given as goal

abbrev pub invariant-loop-chunk : goal.invariant-loop-chunk
invariant-loop-chunk l = IsCounted l.count l.rest l.fn.chunks

abbrev pub decreases-loop-chunk : goal.decreases-loop-chunk
decreases-loop-chunk l = length l.rest
