use Rattle.std.proofs.Common.{length}
use Rattle.order_exec.proofs.keys.+compare_cells.Given as goal

abbrev pub decreases-compare_cells : goal.decreases-compare_cells
decreases-compare_cells l = length l.keys.now
