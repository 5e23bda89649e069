use Rattle.std.proofs.Common.{length}
use Rattle.chunk_cells.proofs.reading.whole.+gather.Given as goal

abbrev pub decreases-gather : goal.decreases-gather
decreases-gather l = length l.first.now
