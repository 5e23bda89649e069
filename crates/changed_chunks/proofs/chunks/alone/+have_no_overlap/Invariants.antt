use Rattle.std.proofs.Common.{length}
use Rattle.changed_chunks.proofs.chunks.alone.+have_no_overlap.Given as goal

abbrev pub decreases-have_no_overlap : goal.decreases-have_no_overlap
decreases-have_no_overlap l = length l.dims.now
