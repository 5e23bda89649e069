use Rattle.std.proofs.Common.{take}
use Rattle.group_rows.specs.Inner.Columns.{AreStatesInside}
use Rattle.group_rows.proofs.rows.columns.states_of_columns.Given as goal

abbrev pub invariant-loop-aggregate : goal.invariant-loop-aggregate
invariant-loop-aggregate l = AreStatesInside (take l.aggregate-index l.aggregates) l.inside l.cells l.states
