use Rattle.std.proofs.Common.{length}
use Rattle.plan_needs.proofs.shapes.+push_sources.Given as goal

abbrev pub decreases-push_sources : goal.decreases-push_sources
decreases-push_sources l = length l.sides.now
