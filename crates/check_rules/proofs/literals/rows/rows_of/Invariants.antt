use Rattle.std.proofs.Common.{◌≡◌, drop}
use Rattle.check_rules.specs.LiteralRows.{rows_from}
use Rattle.check_rules.proofs.RowLemmas.{onto}
use Rattle.check_rules.proofs.literals.rows.rows_of.Given as goal

abbrev pub invariant-loop-values : goal.invariant-loop-values
invariant-loop-values l = onto l.rows (rows_from l.attributes l.dimension.hi l.at (drop l.values-index l.values-items)) ≡ rows_from l.attributes l.dimension.hi l.dimension.lo l.values-items
