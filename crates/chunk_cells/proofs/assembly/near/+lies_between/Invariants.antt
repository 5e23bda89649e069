use Rattle.std.proofs.Common.{length}
use Rattle.chunk_cells.proofs.assembly.near.+lies_between.Given as goal

abbrev pub decreases-lies_between : goal.decreases-lies_between
decreases-lies_between l = length l.low.now
