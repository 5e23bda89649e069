use Rattle.std.proofs.Common.{length}
use Rattle.plan_needs.proofs.shapes.+push_within.Given as goal

abbrev pub decreases-push_within : goal.decreases-push_within
decreases-push_within l = length l.sides.now
