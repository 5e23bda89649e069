use Rattle.std.proofs.Common.{◌≡◌, ◌++◌, map, take, drop}
use Rattle.event_core.specs.History.{is_pages_of}
use Rattle.store_versions.specs.LeanRows.{ended}
use Rattle.store_versions.proofs.lean.lean.rows.end_array.Given as goal

abbrev pub invariant-loop-row : goal.invariant-loop-row
invariant-loop-row l = l.rows ≡ map (ended (is_pages_of l.name) l.place) (take l.row-index l.initial.rows) ++ drop l.row-index l.initial.rows
