use Rattle.std.proofs.Common.{length}
use Rattle.array_geom.proofs.cores.+push_last.Given as goal

abbrev pub decreases-push_last : goal.decreases-push_last
decreases-push_last l = length l.dims.now
