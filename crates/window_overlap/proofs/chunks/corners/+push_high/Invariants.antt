use Rattle.std.proofs.Common.{length}
use Rattle.window_overlap.proofs.chunks.corners.+push_high.Given as goal

abbrev pub decreases-push_high : goal.decreases-push_high
decreases-push_high l = length l.at.now
