use Rattle.std.proofs.Common.{length}
use Rattle.exec_box.proofs.arrays.slice_pieces.+push_others.Given as goal

abbrev pub decreases-push_others : goal.decreases-push_others
decreases-push_others l = length l.number.now
