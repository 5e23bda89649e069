use Rattle.std.proofs.Common.{length}
use Rattle.check_joins.proofs.join.+same_bounds.Given as goal

abbrev pub decreases-same_bounds : goal.decreases-same_bounds
decreases-same_bounds l = length l.left.now
