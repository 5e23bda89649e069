use Rattle.std.proofs.Common.{length}
use Rattle.plan_needs.proofs.lines.+push_from_low.Given as goal

abbrev pub decreases-push_from_low : goal.decreases-push_from_low
decreases-push_from_low l = length l.sides.now
