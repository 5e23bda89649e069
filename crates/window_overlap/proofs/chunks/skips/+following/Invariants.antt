use Rattle.std.proofs.Common.{length}
use Rattle.window_overlap.proofs.chunks.skips.+following.Given as goal

abbrev pub decreases-following : goal.decreases-following
decreases-following l = length l.low.now
