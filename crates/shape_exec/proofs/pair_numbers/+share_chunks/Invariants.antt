use Rattle.std.proofs.Common.{length}
use Rattle.shape_exec.proofs.pair_numbers.+share_chunks.Given as goal

abbrev pub decreases-share_chunks : goal.decreases-share_chunks
decreases-share_chunks l = length l.source.now
