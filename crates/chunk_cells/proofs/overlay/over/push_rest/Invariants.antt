use Rattle.chunk_cells.proofs.RestLaws.{HasUpTo}
use Rattle.chunk_cells.proofs.overlay.over.push_rest.Given as goal

abbrev pub invariant-loop-index : goal.invariant-loop-index
invariant-loop-index l = HasUpTo l.from l.start l.index l.initial.made l.made
