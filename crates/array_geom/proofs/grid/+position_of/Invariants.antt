use Rattle.std.proofs.Common.{length}
use Rattle.array_geom.proofs.grid.+position_of.Given as goal

abbrev pub decreases-position_of : goal.decreases-position_of
decreases-position_of l = length l.lengths.now
