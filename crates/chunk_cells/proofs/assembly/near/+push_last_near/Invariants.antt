use Rattle.std.proofs.Common.{length}
use Rattle.chunk_cells.proofs.assembly.near.+push_last_near.Given as goal

abbrev pub decreases-push_last_near : goal.decreases-push_last_near
decreases-push_last_near l = length l.dims.now
