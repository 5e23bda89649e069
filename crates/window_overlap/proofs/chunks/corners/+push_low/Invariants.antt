use Rattle.std.proofs.Common.{length}
use Rattle.window_overlap.proofs.chunks.corners.+push_low.Given as goal

abbrev pub decreases-push_low : goal.decreases-push_low
decreases-push_low l = length l.at.now
