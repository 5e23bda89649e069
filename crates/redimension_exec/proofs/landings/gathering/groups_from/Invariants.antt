use Rattle.std.proofs.Common.{take, map, ◌≤◌}
use Rattle.redimension_exec.specs.Inner.Places.{origin}
use Rattle.group_rows.specs.Taken.{cells_kept}
use Rattle.redimension_exec.proofs.StateLaws.{AreTaken}
use Rattle.redimension_exec.proofs.landings.gathering.groups_from.Given as goal

abbrev pub invariant-loop-row : goal.invariant-loop-row
invariant-loop-row l = record {
  taken : AreTaken l.aggregates (map origin l.places) l.bounds (take l.row-index l.rows) l.groups;
  cells : cells_kept l.groups.entries ≤ l.row-index;
}
