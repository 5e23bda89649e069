use Rattle.std.proofs.Common.{length}
use Rattle.plan_needs.proofs.sides.+push_sides.Given as goal

abbrev pub decreases-push_sides : goal.decreases-push_sides
decreases-push_sides l = length l.lo.now
