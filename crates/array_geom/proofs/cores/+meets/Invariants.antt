use Rattle.std.proofs.Common.{length}
use Rattle.array_geom.proofs.cores.+meets.Given as goal

abbrev pub decreases-meets : goal.decreases-meets
decreases-meets l = length l.dims.now
