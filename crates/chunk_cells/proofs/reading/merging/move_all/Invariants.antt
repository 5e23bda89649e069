use Rattle.std.proofs.Common.{◌≡◌, ◌++◌, length}
use Rattle.chunk_cells.proofs.reading.merging.move_all.Given as goal

abbrev pub invariant-loop-row : goal.invariant-loop-row
invariant-loop-row l = l.merged ++ l.rows.items ≡ l.initial.merged ++ l.initial.rows.items

abbrev pub decreases-loop-row : goal.decreases-loop-row
decreases-loop-row l = length l.rows.items
