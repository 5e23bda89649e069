use Rattle.std.proofs.Common.{length}
use Rattle.check_joins.proofs.beside.+push_attributes.Given as goal

abbrev pub decreases-push_attributes : goal.decreases-push_attributes
decreases-push_attributes l = length l.attributes.now
