use Rattle.redimension_exec.proofs.ColumnLaws.{StandsUpTo}
use Rattle.redimension_exec.proofs.dense.columns.column_of.Given as goal

abbrev pub invariant-loop-k : goal.invariant-loop-k
invariant-loop-k l = StandsUpTo l.aggregate l.to l.targets l.numbers l.k l.states.items
