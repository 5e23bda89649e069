use Rattle.std.proofs.Common.{◌-◌, ◌≤◌, length, take}
use Rattle.array_rows.specs.Rows.{Coordinate}
use Rattle.group_rows.specs.Sets.{AreKeys, sets_by}
use Rattle.group_rows.specs.Taken.{KeepsGroups, cells_kept}
use Rattle.group_rows.proofs.rows.forming.groups_of.Given as goal

abbrev pub invariant-taking : goal.invariant-taking
invariant-taking l = record {
  within : l.taken ≤ length l.keys;
  states : (group : Coordinate → Coordinate) → AreKeys group l.keys l.rows → KeepsGroups l.aggregates (sets_by group (take l.taken l.rows)) l.groups;
  cells : cells_kept l.groups.entries ≤ l.taken;
}

abbrev pub decreases-taking : goal.decreases-taking
decreases-taking l = length l.keys - l.taken
