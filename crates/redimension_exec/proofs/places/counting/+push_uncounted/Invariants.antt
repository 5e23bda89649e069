use Rattle.std.proofs.Common.{length}
use Rattle.redimension_exec.proofs.places.counting.+push_uncounted.Given as goal

abbrev pub decreases-push_uncounted : goal.decreases-push_uncounted
decreases-push_uncounted l = length l.at.now
