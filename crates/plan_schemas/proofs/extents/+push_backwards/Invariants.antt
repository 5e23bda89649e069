use Rattle.std.proofs.Common.{length}
use Rattle.plan_schemas.proofs.extents.+push_backwards.Given as goal

abbrev pub decreases-push_backwards : goal.decreases-push_backwards
decreases-push_backwards l = length l.dimensions.now
