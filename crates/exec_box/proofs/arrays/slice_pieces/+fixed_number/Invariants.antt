use Rattle.std.proofs.Common.{length}
use Rattle.exec_box.proofs.arrays.slice_pieces.+fixed_number.Given as goal

abbrev pub decreases-fixed_number : goal.decreases-fixed_number
decreases-fixed_number l = length l.fixed.now
