use Rattle.std.proofs.Common.{◌≡◌, ◌-◌, ◌≤◌, length, take}
use Rattle.cell_values.specs.declared.schema.Bounds.{Bounds}
use Rattle.array_rows.specs.Boxes.{within}
use Rattle.group_rows.specs.Inner.Columns.{are_inside}
use Rattle.group_rows.specs.Inner.Places.{key_of, rows_at}
use Rattle.group_rows.specs.Sets.{sets_by}
use Rattle.group_rows.specs.Taken.{KeepsGroups, cells_kept}
use Rattle.group_rows.proofs.places.runs.groups_of_places.Given as goal

abbrev pub invariant-taking : goal.invariant-taking
invariant-taking l = record {
  within_places : l.taken ≤ length l.positions;
  states : (area : Bounds) → are_inside area (rows_at l.grid l.positions l.cells 0) ≡ l.marks
      → KeepsGroups l.aggregates (sets_by (key_of l.grouping) (within area (take l.taken (rows_at l.grid l.positions l.cells 0)))) l.groups;
  cells : (area : Bounds) → are_inside area (rows_at l.grid l.positions l.cells 0) ≡ l.marks
      → cells_kept l.groups.entries ≤ length (within area (take l.taken (rows_at l.grid l.positions l.cells 0)));
  few : cells_kept l.groups.entries ≤ l.taken;
}

abbrev pub decreases-taking : goal.decreases-taking
decreases-taking l = length l.positions - l.taken
