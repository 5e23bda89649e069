use Rattle.std.proofs.Common.{length}
use Rattle.plan_schemas.proofs.attributes.+push_either.Given as goal

abbrev pub decreases-push_either : goal.decreases-push_either
decreases-push_either l = length l.left.now
