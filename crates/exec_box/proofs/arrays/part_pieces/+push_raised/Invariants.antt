use Rattle.std.proofs.Common.{length}
use Rattle.exec_box.proofs.arrays.part_pieces.+push_raised.Given as goal

abbrev pub decreases-push_raised : goal.decreases-push_raised
decreases-push_raised l = length l.at.now
