use Rattle.std.proofs.Common.{length}
use Rattle.exec_box.proofs.arrays.numbers.+push_picks.Given as goal

abbrev pub decreases-push_picks : goal.decreases-push_picks
decreases-push_picks l = length l.low.now
