use Rattle.std.proofs.Common.{length}
use Rattle.exec_join.proofs.arrays.cross_numbers.+push_unpaired.Given as goal

abbrev pub decreases-push_unpaired : goal.decreases-push_unpaired
decreases-push_unpaired l = length l.number.now
