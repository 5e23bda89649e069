use Rattle.std.proofs.Common.{length}
use Rattle.order_exec.proofs.number_sorts.+push_spans.Given as goal

abbrev pub decreases-push_spans : goal.decreases-push_spans
decreases-push_spans l = length l.lo.now
