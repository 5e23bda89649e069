use Rattle.order_exec.proofs.KeyedLaws.{KeyedSoFar}
use Rattle.order_exec.proofs.number_keys.keyed_cells.Given as goal

abbrev pub invariant-loop-index : goal.invariant-loop-index
invariant-loop-index l = KeyedSoFar l.key l.found l.keyed l.index
