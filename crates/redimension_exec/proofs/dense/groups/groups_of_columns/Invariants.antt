use Rattle.std.proofs.Common.{◌≡◌, ◌≤◌, List, length}
use Rattle.std.specs.List.{AllZip}
use Rattle.cell_values.specs.declared.datum.Row.{Row}
use Rattle.array_rows.specs.Rows.{IsRising}
use Rattle.array_geom.specs.Geometry.{volume}
use Rattle.redimension_exec.specs.Inner.Dense.{AreGroupsUpTo, IsColumn, landed_there}
use Rattle.redimension_exec.proofs.dense.groups.groups_of_columns.Given as goal

abbrev pub invariant-loop-place : goal.invariant-loop-place
invariant-loop-place l = record {
  within : l.place ≤ volume l.to.lengths.items;
  groups : (rows : List Row) → IsRising rows → length l.targets ≡ length rows
      → AllZip (λ g column. IsColumn g l.to (landed_there l.to l.targets rows) column) l.aggregates l.columns → AreGroupsUpTo l.aggregates l.to l.targets rows l.place l.groups;
}
