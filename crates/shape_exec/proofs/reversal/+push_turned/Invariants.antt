use Rattle.std.proofs.Common.{length}
use Rattle.shape_exec.proofs.reversal.+push_turned.Given as goal

abbrev pub decreases-push_turned : goal.decreases-push_turned
decreases-push_turned l = length l.dims.now
