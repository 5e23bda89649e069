use Rattle.std.proofs.Common.{length}
use Rattle.exec_box.proofs.arrays.numbers.+push_chunks_from.Given as goal

abbrev pub decreases-push_chunks_from : goal.decreases-push_chunks_from
decreases-push_chunks_from l = length l.dims.now
