use Rattle.std.proofs.Common.{◌≡◌, ◌+◌}
use Rattle.group_rows.proofs.TakenLaws.{StandsAlso}
use Rattle.group_rows.proofs.rows.states.with_cells.Given as goal

abbrev pub invariant-loop-row : goal.invariant-loop-row
invariant-loop-row l = record {
  also : StandsAlso l.aggregate l.rows l.fn.state l.row-index l.state;
  cells : l.state.cells ≡ l.fn.state.cells + l.row-index;
}
