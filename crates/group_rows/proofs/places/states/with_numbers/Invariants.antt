use Rattle.std.proofs.Common.{◌≡◌, ◌+◌}
use Rattle.group_rows.proofs.PlaceLaws.{StandsWith}
use Rattle.group_rows.proofs.places.states.with_numbers.Given as goal

abbrev pub invariant-loop-place : goal.invariant-loop-place
invariant-loop-place l = record {
  also : StandsWith l.fn.state l.numbers l.place l.state;
  cells : l.state.cells ≡ l.fn.state.cells + l.place;
}
