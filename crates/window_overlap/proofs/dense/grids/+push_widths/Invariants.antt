use Rattle.std.proofs.Common.{length}
use Rattle.window_overlap.proofs.dense.grids.+push_widths.Given as goal

abbrev pub decreases-push_widths : goal.decreases-push_widths
decreases-push_widths l = length l.reach.now
