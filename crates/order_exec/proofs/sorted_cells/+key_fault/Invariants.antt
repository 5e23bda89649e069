use Rattle.std.proofs.Common.{length}
use Rattle.order_exec.proofs.sorted_cells.+key_fault.Given as goal

abbrev pub decreases-key_fault : goal.decreases-key_fault
decreases-key_fault l = length l.keys.now
