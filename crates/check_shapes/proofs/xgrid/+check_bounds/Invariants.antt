use Rattle.std.proofs.Common.{length}
use Rattle.check_shapes.proofs.xgrid.+check_bounds.Given as goal

abbrev pub decreases-check_bounds : goal.decreases-check_bounds
decreases-check_bounds l = length l.dimensions.now
