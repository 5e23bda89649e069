use Rattle.std.proofs.Common.{length}
use Rattle.plan_needs.proofs.sides.+has_empty.Given as goal

abbrev pub decreases-has_empty : goal.decreases-has_empty
decreases-has_empty l = length l.sides.now
