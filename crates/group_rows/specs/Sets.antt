-- Sets of cells by groups.
use Rattle.std.specs.Prelude.{◌≡◌, ℤ, Bool, if◌then◌else◌, List, [], ◌∷◌, map, Option, Some, None, ⊤}
use Rattle.std.specs.List.{AllByRecursion, list_all}
use Rattle.std.specs.Ordering.{is_eq}
use Rattle.arrayvec.specs.ArrayVec.{ArrayVec}
use Rattle.cell_values.specs.declared.datum.Row.{Row}
use Rattle.array_rows.specs.Rows.{Coordinate, row_major, put_all}
use Rattle.logical_plan.specs.Groups.{group_at}
use Rattle.agg_states.specs.Stands.{AreApart}

-- for each coordinate the cells of the group there, and none where there is no group
abbrev pub Sets : Type 0
Sets = Coordinate → Option (List Row)

abbrev pub unless_empty : List Row → Option (List Row)
unless_empty [] = None
unless_empty (row ∷ rows) = Some (row ∷ rows)

-- each cell in the group at the coordinate that a function makes of its own: there is a group for each of these coordinates
abbrev pub sets_by : (Coordinate → Coordinate) → List Row → Sets
sets_by group rows c = unless_empty (group_at group c rows)

-- all cells in one group at a coordinate, also where there is no cell
abbrev pub one_set : Coordinate → List Row → Sets
one_set at rows c = if is_eq (row_major at c) then Some rows else None

-- the cells of both groups
abbrev pub both : Option (List Row) → Option (List Row) → Option (List Row)
both None b = b
both (Some a) None = Some a
both (Some a) (Some b) = Some (put_all a b)

abbrev pub both_sets : Sets → Sets → Sets
both_sets a b c = both (a c) (b c)

-- the cells of all parts
abbrev pub all_sets : List Sets → Sets
all_sets [] c = None
all_sets (sets ∷ parts) c = both (sets c) (all_sets parts c)

-- no coordinate has a cell in both groups
abbrev pub IsApart : Option (List Row) → Option (List Row) → Type 0
IsApart None b = ⊤
IsApart (Some a) None = ⊤
IsApart (Some a) (Some b) = AreApart a b

abbrev pub AreApartSets : Sets → Sets → Type 0
AreApartSets a b = (c : Coordinate) → IsApart (a c) (b c)

-- no coordinate has a cell in one group of two parts
abbrev pub AreAllApart : List Sets → Type 0
AreAllApart [] = ⊤
AreAllApart (sets ∷ parts) = AllByRecursion (AreApartSets sets) parts × AreAllApart parts

-- all of these coordinates are the same
abbrev pub are_at : Coordinate → List (ArrayVec ℤ) → Bool
are_at at keys = list_all (λ key. is_eq (row_major key.items at)) keys

-- the coordinate of each cell's group
abbrev pub AreKeys : (Coordinate → Coordinate) → List (ArrayVec ℤ) → List Row → Type 0
AreKeys group keys rows = map (λ key. key.items) keys ≡ map (λ row. group row.at.items) rows
