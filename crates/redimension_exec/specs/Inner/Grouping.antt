-- Groups of the cells that land at one coordinate.
use Rattle.std.specs.Prelude.{◌≡◌, false, List, [], Result, Ok, Err}
use Rattle.std.specs.List.{AllZip}
use Rattle.cell_values.specs.declared.datum.Broken.{Broken}
use Rattle.cell_values.specs.declared.datum.Row.{Row}
use Rattle.cell_values.specs.declared.memory.Memory.{Memory}
use Rattle.cell_values.specs.declared.schema.Bounds.{Bounds}
use Rattle.logical_plan.specs.declared.parts.Aggregate.{Aggregate}
use Rattle.logical_plan.specs.Redimension.{Origin, Landed, landed, landed_at}
use Rattle.group_rows.specs.declared.rows.groups.Groups.{Groups}
use Rattle.group_rows.specs.Grouped.{AreGroupsOf}
use Rattle.group_rows.specs.Sets.{Sets, unless_empty}
use Rattle.group_rows.specs.Told.{IsRowOf}

-- the cells that land at each coordinate
abbrev pub landed_sets : List Landed → Sets
landed_sets all c = unless_empty (landed_at all c)

-- the groups of the cells that landed at each coordinate, or the row that breaks the array
abbrev pub AreGroupsLanded : List Aggregate → List Origin → Bounds → List Row → Result Groups Broken → Type 0
AreGroupsLanded gs origins bounds rows (Ok groups) =
    (all : List Landed) × (landed origins bounds false rows [] ≡ Ok all) × AreGroupsOf gs (landed_sets all) groups.groups
AreGroupsLanded gs origins bounds rows (Err broken) = landed origins bounds false rows [] ≡ Err broken

-- the rows that groups tell, or what broke the array
abbrev pub AreRowsTold : Result (Result Groups Broken) Memory → Result (List Row) Broken → Type 0
AreRowsTold (Ok (Ok groups)) (Ok rows) = AllZip IsRowOf groups.groups rows
AreRowsTold (Ok (Ok groups)) (Err other) = ⊥
AreRowsTold (Ok (Err broken)) (Ok rows) = ⊥
AreRowsTold (Ok (Err broken)) (Err other) = broken ≡ other
AreRowsTold (Err memory) made = ⊥
