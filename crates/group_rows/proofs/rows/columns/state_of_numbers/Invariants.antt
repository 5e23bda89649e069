use Rattle.std.proofs.Common.{◌≤◌}
use Rattle.group_rows.proofs.ColumnLaws.{StandsUpTo}
use Rattle.group_rows.proofs.rows.columns.state_of_numbers.Given as goal

abbrev pub invariant-loop-place : goal.invariant-loop-place
invariant-loop-place l = record {
  stands : StandsUpTo l.aggregate l.numbers l.inside l.place l.state;
  cells : l.state.cells ≤ l.place;
}
