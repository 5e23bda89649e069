use Rattle.std.proofs.Common.{length}
use Rattle.plan_needs.proofs.sides.+push_firsts.Given as goal

abbrev pub decreases-push_firsts : goal.decreases-push_firsts
decreases-push_firsts l = length l.sides.now
