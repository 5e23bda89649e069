use Rattle.std.proofs.Common.{length}
use Rattle.array_geom.proofs.frames.+push_high.Given as goal

abbrev pub decreases-push_high : goal.decreases-push_high
decreases-push_high l = length l.dims.now
