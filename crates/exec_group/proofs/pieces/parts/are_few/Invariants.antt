use Rattle.std.proofs.Common.{◌≡◌, ◌+◌, length}
use Rattle.exec_group.specs.Inner.Parts.{cells_held}
use Rattle.exec_group.proofs.pieces.parts.are_few.Given as goal

abbrev pub invariant-loop-chunk : goal.invariant-loop-chunk
invariant-loop-chunk l = l.count + cells_held l.rest ≡ cells_held l.fn.chunks

abbrev pub decreases-loop-chunk : goal.decreases-loop-chunk
decreases-loop-chunk l = length l.rest
