use Rattle.std.proofs.Common.{length}
use Rattle.chunk_cells.proofs.assembly.near.+push_next.Given as goal

abbrev pub decreases-push_next : goal.decreases-push_next
decreases-push_next l = length l.low.now
