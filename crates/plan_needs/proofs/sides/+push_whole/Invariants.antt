use Rattle.std.proofs.Common.{length}
use Rattle.plan_needs.proofs.sides.+push_whole.Given as goal

abbrev pub decreases-push_whole : goal.decreases-push_whole
decreases-push_whole l = length l.dimensions.now
