use Rattle.std.proofs.Common.{length}
use Rattle.plan_needs.proofs.sides.+push_shared.Given as goal

abbrev pub decreases-push_shared : goal.decreases-push_shared
decreases-push_shared l = length l.a.now
