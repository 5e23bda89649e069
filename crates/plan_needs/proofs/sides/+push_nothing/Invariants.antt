use Rattle.std.proofs.Common.{length}
use Rattle.plan_needs.proofs.sides.+push_nothing.Given as goal

abbrev pub decreases-push_nothing : goal.decreases-push_nothing
decreases-push_nothing l = length l.sides.now
