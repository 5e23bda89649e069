use Rattle.std.proofs.Common.{length}
use Rattle.redimension_exec.proofs.places.counting.+push_counted.Given as goal

abbrev pub decreases-push_counted : goal.decreases-push_counted
decreases-push_counted l = length l.places.now
