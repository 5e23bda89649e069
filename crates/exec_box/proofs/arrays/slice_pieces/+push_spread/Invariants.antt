use Rattle.std.proofs.Common.{length}
use Rattle.exec_box.proofs.arrays.slice_pieces.+push_spread.Given as goal

abbrev pub decreases-push_spread : goal.decreases-push_spread
decreases-push_spread l = length l.dims.now
