use Rattle.std.proofs.Common.{length}
use Rattle.plan_needs.proofs.sides.+push_held.Given as goal

abbrev pub decreases-push_held : goal.decreases-push_held
decreases-push_held l = length l.dimensions.now
