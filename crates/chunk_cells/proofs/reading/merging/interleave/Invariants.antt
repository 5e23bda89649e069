use Rattle.std.proofs.Common.{◌+◌, [], length}
use Rattle.chunk_cells.specs.Inner.Merging.{IsMergedOn}
use Rattle.chunk_cells.proofs.reading.merging.interleave.Given as goal

abbrev pub invariant-merging : goal.invariant-merging
invariant-merging l = IsMergedOn [] l.initial.left.items l.initial.right.items l.merged l.left.items l.right.items

abbrev pub decreases-merging : goal.decreases-merging
decreases-merging l = length l.left.items + length l.right.items
