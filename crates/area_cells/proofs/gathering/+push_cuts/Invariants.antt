use Rattle.std.proofs.Common.{length}
use Rattle.area_cells.proofs.gathering.+push_cuts.Given as goal

abbrev pub decreases-push_cuts : goal.decreases-push_cuts
decreases-push_cuts l = length l.chunks.now
