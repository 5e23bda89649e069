use Rattle.std.proofs.Common.{length}
use Rattle.window_overlap.proofs.dense.grids.+push_zeros.Given as goal

abbrev pub decreases-push_zeros : goal.decreases-push_zeros
decreases-push_zeros l = length l.reach.now
