use Rattle.std.proofs.Common.{length}
use Rattle.plan_needs.proofs.shapes.+push_opposites.Given as goal

abbrev pub decreases-push_opposites : goal.decreases-push_opposites
decreases-push_opposites l = length l.sides.now
