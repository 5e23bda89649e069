use Rattle.std.proofs.Common.{length}
use Rattle.plan_schemas.proofs.extents.+push_copies.Given as goal

abbrev pub decreases-push_copies : goal.decreases-push_copies
decreases-push_copies l = length l.dimensions.now
