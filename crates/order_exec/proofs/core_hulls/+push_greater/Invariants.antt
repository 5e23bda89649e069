use Rattle.std.proofs.Common.{length}
use Rattle.order_exec.proofs.core_hulls.+push_greater.Given as goal

abbrev pub decreases-push_greater : goal.decreases-push_greater
decreases-push_greater l = length l.a.now
