use Rattle.std.proofs.Common.{length}
use Rattle.window_overlap.proofs.dense.grids.+fits.Given as goal

abbrev pub decreases-fits : goal.decreases-fits
decreases-fits l = length l.lengths.now
