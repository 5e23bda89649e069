use Rattle.std.proofs.Common.{◌≡◌, ◌+◌}
use Rattle.group_rows.specs.Inner.Places.{rows_at}
use Rattle.group_rows.proofs.TakenLaws.{StandsAlso}
use Rattle.group_rows.proofs.places.states.with_each.Given as goal

abbrev pub invariant-loop-place : goal.invariant-loop-place
invariant-loop-place l = record {
  also : StandsAlso l.aggregate (rows_at l.grid l.positions l.cells l.from) l.fn.state l.place l.state;
  cells : l.state.cells ≡ l.fn.state.cells + l.place;
}
