use Rattle.std.proofs.Common.{length}
use Rattle.redimension_exec.proofs.dense.grids.+push_spans.Given as goal

abbrev pub decreases-push_spans : goal.decreases-push_spans
decreases-push_spans l = length l.lo.now
