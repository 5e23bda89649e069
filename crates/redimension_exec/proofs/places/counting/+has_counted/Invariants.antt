use Rattle.std.proofs.Common.{length}
use Rattle.redimension_exec.proofs.places.counting.+has_counted.Given as goal

abbrev pub decreases-has_counted : goal.decreases-has_counted
decreases-has_counted l = length l.places.now
