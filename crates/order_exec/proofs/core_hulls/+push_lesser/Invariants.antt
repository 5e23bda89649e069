use Rattle.std.proofs.Common.{length}
use Rattle.order_exec.proofs.core_hulls.+push_lesser.Given as goal

abbrev pub decreases-push_lesser : goal.decreases-push_lesser
decreases-push_lesser l = length l.a.now
