use Rattle.std.proofs.Common.{length}
use Rattle.exec_join.proofs.arrays.cross_pieces.+push_aside.Given as goal

abbrev pub decreases-push_aside : goal.decreases-push_aside
decreases-push_aside l = length l.dims.now
