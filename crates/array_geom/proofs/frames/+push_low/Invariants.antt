use Rattle.std.proofs.Common.{length}
use Rattle.array_geom.proofs.frames.+push_low.Given as goal

abbrev pub decreases-push_low : goal.decreases-push_low
decreases-push_low l = length l.dims.now
