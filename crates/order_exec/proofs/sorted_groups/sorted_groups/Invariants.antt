use Rattle.std.proofs.Common.{length}
use Rattle.order_exec.proofs.GroupOrderLaws.{SortedSoFar}
use Rattle.order_exec.proofs.sorted_groups.sorted_groups.Given as goal

abbrev pub invariant-sorting : goal.invariant-sorting
invariant-sorting l = SortedSoFar l.fn.groups l.left l.sorted

abbrev pub decreases-sorting : goal.decreases-sorting
decreases-sorting l = length l.left.entries
