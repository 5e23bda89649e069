use Rattle.std.proofs.Common.{length}
use Rattle.array_geom.proofs.grid.+volume_of.Given as goal

abbrev pub decreases-volume_of : goal.decreases-volume_of
decreases-volume_of l = length l.lengths.now
