-- The states of groups by their coordinates, which take one run of cells after the other.
use Rattle.std.specs.Prelude.{ℕ, ◌+◌, ℤ, if◌then◌else◌, List, [], ◌∷◌, ◌++◌, Option, Some, None}
use Rattle.std.specs.BTreeMap as tree
use Rattle.std.specs.BTreeMap.{BTreeMap}
use Rattle.std.specs.Ordering.{is_eq}
use Rattle.std.specs.declared.cmp.Ordering.{Ordering}
use Rattle.arrayvec.specs.ArrayVec.{ArrayVec}
use Rattle.cell_values.specs.declared.datum.Row.{Row}
use Rattle.array_rows.specs.Rows.{Coordinate, row_major}
use Rattle.logical_plan.specs.declared.parts.Aggregate.{Aggregate}
use Rattle.agg_states.specs.Inner.Summary.{Summary}
use Rattle.group_rows.specs.declared.rows.groups.Group.{Group}
use Rattle.group_rows.specs.Counts.{cells_of}
use Rattle.group_rows.specs.Grouped.{IsGroupOf}
use Rattle.group_rows.specs.Sets.{Sets}

abbrev pub by_coordinate : ArrayVec ℤ → ArrayVec ℤ → Ordering
by_coordinate v w = row_major v.items w.items

-- the cells of a set, none where there is no set
abbrev pub rows_of : Option (List Row) → List Row
rows_of None = []
rows_of (Some rows) = rows

-- the sets, with further cells in the one at a coordinate
abbrev pub sets_with : Coordinate → List Row → Sets → Sets
sets_with at rows sets c = if is_eq (row_major at c) then Some (rows_of (sets c) ++ rows) else sets c

-- where there is a set there are its states, and nowhere else
abbrev pub KeepsGroups : List Aggregate → Sets → BTreeMap (ArrayVec ℤ) (List Summary) → Type 0
KeepsGroups gs sets groups = (key : ArrayVec ℤ) → IsGroupOf gs (sets key.items) (tree.get by_coordinate groups key)

-- how many cells the states stand for
abbrev pub cells_kept : List (ArrayVec ℤ × List Summary) → ℕ
cells_kept [] = 0
cells_kept (e ∷ entries) = cells_of e.1 + cells_kept entries

-- the group of a coordinate's states
abbrev pub group_of : (ArrayVec ℤ × List Summary) → Group
group_of e = record { at = e.0; states = e.1 }
