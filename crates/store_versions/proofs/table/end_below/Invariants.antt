use Rattle.std.proofs.Common.{◌≡◌, ◌++◌, map, take, drop}
use Rattle.store_versions.specs.Rows.{ended, is_row_below}
use Rattle.store_versions.proofs.table.end_below.Given as goal

abbrev pub invariant-loop-row : goal.invariant-loop-row
invariant-loop-row l = l.rows ≡ map (ended (is_row_below l.name l.below) l.place) (take l.row-index l.initial.rows) ++ drop l.row-index l.initial.rows
