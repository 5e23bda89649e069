use Rattle.std.proofs.Common.{◌<◌, ◌-◌, length}
use Rattle.chunk_cells.proofs.reading.whole.cut_of.Given as goal

abbrev pub invariant-loop-at : goal.invariant-loop-at
invariant-loop-at l = 0 < l.at

abbrev pub decreases-loop-at : goal.decreases-loop-at
decreases-loop-at l = length l.first - l.at
