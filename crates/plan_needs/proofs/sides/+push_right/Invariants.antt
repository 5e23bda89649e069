use Rattle.std.proofs.Common.{length}
use Rattle.plan_needs.proofs.sides.+push_right.Given as goal

abbrev pub decreases-push_right : goal.decreases-push_right
decreases-push_right l = length l.dimensions.now
