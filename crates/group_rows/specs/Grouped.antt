-- Groups that stand for sets of cells.
use Rattle.std.specs.Prelude.{◌≡◌, if◌then◌else◌, List, [], ◌∷◌, Option, Some, None, ⊤}
use Rattle.std.specs.List.{AllByRecursion, AllZip}
use Rattle.std.specs.Ordering.{is_eq}
use Rattle.std.specs.declared.cmp.Ordering.TheVariants.{Less}
use Rattle.cell_values.specs.declared.datum.Row.{Row}
use Rattle.array_rows.specs.Rows.{Coordinate, row_major, IsRising}
use Rattle.logical_plan.specs.declared.parts.Aggregate.{Aggregate}
use Rattle.agg_states.specs.Stands.{StandsFor}
use Rattle.agg_states.specs.Inner.Summary.{Summary}
use Rattle.group_rows.specs.declared.rows.groups.Group.{Group}
use Rattle.group_rows.specs.declared.rows.groups.Groups.{Groups}
use Rattle.group_rows.specs.Sets.{Sets}

-- a state of each aggregate for the cells of these rows
abbrev pub AreStatesOf : List Aggregate → List Row → List Summary → Type 0
AreStatesOf gs rows states = AllZip (λ g state. StandsFor g rows state) gs states

-- the coordinate comes before that of each group
abbrev pub ComesBefore : Coordinate → List Group → Type 0
ComesBefore c groups = AllByRecursion (λ group. row_major c group.at.items ≡ Less) groups

-- each group's coordinate comes before those of all later groups
abbrev pub AreInOrder : List Group → Type 0
AreInOrder [] = ⊤
AreInOrder (group ∷ groups) = ComesBefore group.at.items groups × AreInOrder groups

-- the states of the group at a coordinate, or none where there is no group
abbrev pub states_at : List Group → Coordinate → Option (List Summary)
states_at [] c = None
states_at (group ∷ groups) c = if is_eq (row_major group.at.items c) then Some group.states else states_at groups c

-- a group where there is a set, and its states for the cells of the set
abbrev pub IsGroupOf : List Aggregate → Option (List Row) → Option (List Summary) → Type 0
IsGroupOf gs None None = ⊤
IsGroupOf gs None (Some states) = ⊥
IsGroupOf gs (Some rows) None = ⊥
IsGroupOf gs (Some rows) (Some states) = IsRising rows × AreStatesOf gs rows states

-- the groups of these sets of cells, in row-major order
pub record AreGroupsOf (gs : List Aggregate) (sets : Sets) (groups : List Group) : Type 0 where
  pub in_order : AreInOrder groups
  pub each : (c : Coordinate) → IsGroupOf gs (sets c) (states_at groups c)

-- the groups of several parts
abbrev pub ArePartsOf : List Aggregate → List Sets → List Groups → Type 0
ArePartsOf gs sets parts = AllZip (λ own part. AreGroupsOf gs own part.groups) sets parts
