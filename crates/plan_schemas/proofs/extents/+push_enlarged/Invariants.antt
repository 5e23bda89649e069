use Rattle.std.proofs.Common.{length}
use Rattle.plan_schemas.proofs.extents.+push_enlarged.Given as goal

abbrev pub decreases-push_enlarged : goal.decreases-push_enlarged
decreases-push_enlarged l = length l.dimensions.now
