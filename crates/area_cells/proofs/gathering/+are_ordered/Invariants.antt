use Rattle.std.proofs.Common.{length}
use Rattle.area_cells.proofs.gathering.+are_ordered.Given as goal

abbrev pub decreases-are_ordered : goal.decreases-are_ordered
decreases-are_ordered l = length l.lo.now
