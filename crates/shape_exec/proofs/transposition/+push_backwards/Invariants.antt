use Rattle.std.proofs.Common.{length}
use Rattle.shape_exec.proofs.transposition.+push_backwards.Given as goal

abbrev pub decreases-push_backwards : goal.decreases-push_backwards
decreases-push_backwards l = length l.numbers.now
