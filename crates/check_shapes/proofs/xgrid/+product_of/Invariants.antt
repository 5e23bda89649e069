use Rattle.std.proofs.Common.{length}
use Rattle.check_shapes.proofs.xgrid.+product_of.Given as goal

abbrev pub decreases-product_of : goal.decreases-product_of
decreases-product_of l = length l.sizes.now
