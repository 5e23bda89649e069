use Rattle.std.proofs.Common.{length}
use Rattle.shape_exec.proofs.reversal.+push_opposite.Given as goal

abbrev pub decreases-push_opposite : goal.decreases-push_opposite
decreases-push_opposite l = length l.dims.now
