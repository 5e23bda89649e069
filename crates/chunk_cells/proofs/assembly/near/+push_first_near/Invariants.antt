use Rattle.std.proofs.Common.{length}
use Rattle.chunk_cells.proofs.assembly.near.+push_first_near.Given as goal

abbrev pub decreases-push_first_near : goal.decreases-push_first_near
decreases-push_first_near l = length l.dims.now
