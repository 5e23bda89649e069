use Rattle.std.proofs.Common.{[], take, ◌≤◌}
use Rattle.group_rows.specs.Counts.{cells_of}
use Rattle.group_rows.specs.Grouped.{AreStatesOf}
use Rattle.group_rows.proofs.rows.states.no_states.Given as goal

abbrev pub invariant-loop-aggregate : goal.invariant-loop-aggregate
invariant-loop-aggregate l = record {
  states : AreStatesOf (take l.aggregate-index l.aggregates) [] l.states;
  cells : cells_of l.states ≤ 0;
}
