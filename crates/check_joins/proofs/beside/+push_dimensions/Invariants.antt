use Rattle.std.proofs.Common.{length}
use Rattle.check_joins.proofs.beside.+push_dimensions.Given as goal

abbrev pub decreases-push_dimensions : goal.decreases-push_dimensions
decreases-push_dimensions l = length l.dimensions.now
