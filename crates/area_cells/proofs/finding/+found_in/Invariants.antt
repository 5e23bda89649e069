use Rattle.std.proofs.Common.{length}
use Rattle.area_cells.proofs.finding.+found_in.Given as goal

abbrev pub decreases-found_in : goal.decreases-found_in
decreases-found_in l = length l.chunks.now
