use Rattle.std.proofs.Common.{length}
use Rattle.plan_needs.proofs.sides.+push_grown.Given as goal

abbrev pub decreases-push_grown : goal.decreases-push_grown
decreases-push_grown l = length l.sides.now
