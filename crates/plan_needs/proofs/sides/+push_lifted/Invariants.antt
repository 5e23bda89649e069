use Rattle.std.proofs.Common.{length}
use Rattle.plan_needs.proofs.sides.+push_lifted.Given as goal

abbrev pub decreases-push_lifted : goal.decreases-push_lifted
decreases-push_lifted l = length l.sides.now
