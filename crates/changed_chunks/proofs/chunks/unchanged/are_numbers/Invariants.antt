use Rattle.changed_chunks.specs.Inner.Unchanged.{AreNumbers}
use Rattle.changed_chunks.proofs.chunks.unchanged.are_numbers.Given as goal

abbrev pub invariant-loop-place : goal.invariant-loop-place
invariant-loop-place l = AreNumbers l.place l.cells
