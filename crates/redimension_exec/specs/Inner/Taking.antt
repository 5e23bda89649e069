-- States of the cells that landed at each coordinate, which take one row after the other.
use Rattle.std.specs.Prelude.{◌≡◌, ℤ, false, List, [], ◌∷◌, ◌++◌, map, Option, Some, None, Ok, Err}
use Rattle.std.specs.BTreeMap.{BTreeMap}
use Rattle.arrayvec.specs.ArrayVec.{ArrayVec}
use Rattle.cell_values.specs.declared.datum.Broken.{Broken}
use Rattle.cell_values.specs.declared.datum.Row.{Row}
use Rattle.cell_values.specs.declared.schema.Bounds.{Bounds}
use Rattle.array_rows.specs.Rows.{IsRising}
use Rattle.logical_plan.specs.declared.parts.Aggregate.{Aggregate}
use Rattle.logical_plan.specs.Redimension.{Origin, Landed, landed}
use Rattle.agg_states.specs.Inner.Summary.{Summary}
use Rattle.group_rows.specs.Taken.{KeepsGroups}
use Rattle.redimension_exec.specs.Inner.Grouping.{landed_sets}

-- the rows of those that landed
abbrev pub rows_in : List Landed → List Row
rows_in all = map (λ l. l.1) all

-- where cells landed there are their states, and nowhere else
abbrev pub HoldsStates : List Aggregate → List Landed → BTreeMap (ArrayVec ℤ) (List Summary) → Type 0
HoldsStates gs all groups = KeepsGroups gs (landed_sets all) groups

-- one row further: it breaks the array, or the states are those with what lands of it
abbrev pub IsTaken : List Aggregate → List Origin → Bounds → Row → Option Broken
    → BTreeMap (ArrayVec ℤ) (List Summary) → BTreeMap (ArrayVec ℤ) (List Summary) → Type 0
IsTaken gs origins bounds row (Some broken) old new = (rows : List Row) → landed origins bounds false (row ∷ rows) [] ≡ Err broken
IsTaken gs origins bounds row None old new =
    (some : List Landed) × (landed origins bounds false (row ∷ []) [] ≡ Ok some)
    × ((all : List Landed) → HoldsStates gs all old → IsRising (rows_in (all ++ some)) → HoldsStates gs (all ++ some) new)
