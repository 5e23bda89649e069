use Rattle.std.proofs.Common.{length}
use Rattle.window_overlap.proofs.chunks.corners.+push_lowered.Given as goal

abbrev pub decreases-push_lowered : goal.decreases-push_lowered
decreases-push_lowered l = length l.at.now
