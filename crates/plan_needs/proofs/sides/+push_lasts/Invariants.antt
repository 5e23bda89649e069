use Rattle.std.proofs.Common.{length}
use Rattle.plan_needs.proofs.sides.+push_lasts.Given as goal

abbrev pub decreases-push_lasts : goal.decreases-push_lasts
decreases-push_lasts l = length l.sides.now
