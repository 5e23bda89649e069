use Rattle.std.proofs.Common.{length}
use Rattle.redimension_exec.proofs.arrays.chunks.+groups_in_chunks.Given as goal

abbrev pub decreases-groups_in_chunks : goal.decreases-groups_in_chunks
decreases-groups_in_chunks l = length l.chunks.now
