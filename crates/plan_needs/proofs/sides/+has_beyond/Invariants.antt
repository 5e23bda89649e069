use Rattle.std.proofs.Common.{length}
use Rattle.plan_needs.proofs.sides.+has_beyond.Given as goal

abbrev pub decreases-has_beyond : goal.decreases-has_beyond
decreases-has_beyond l = length l.fixed.now
