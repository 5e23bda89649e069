use Rattle.std.proofs.Common.{length}
use Rattle.array_geom.proofs.frames.+push_lengths.Given as goal

abbrev pub decreases-push_lengths : goal.decreases-push_lengths
decreases-push_lengths l = length l.dims.now
