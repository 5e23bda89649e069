use Rattle.std.proofs.Common.{length}
use Rattle.area_cells.proofs.margins.+push_none.Given as goal

abbrev pub decreases-push_none : goal.decreases-push_none
decreases-push_none l = length l.dims.now
