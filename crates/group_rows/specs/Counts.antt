-- How many cells groups stand for.
use Rattle.std.specs.Prelude.{ℕ, ◌+◌, max, List, [], ◌∷◌}
use Rattle.agg_states.specs.Inner.Summary.{Summary}
use Rattle.group_rows.specs.declared.rows.groups.Group.{Group}
use Rattle.group_rows.specs.declared.rows.groups.Groups.{Groups}

-- the states of a group stand for the same cells
abbrev pub cells_of : List Summary → ℕ
cells_of [] = 0
cells_of (state ∷ states) = max state.cells (cells_of states)

abbrev pub cells_in : List Group → ℕ
cells_in [] = 0
cells_in (group ∷ groups) = cells_of group.states + cells_in groups

abbrev pub cells_in_all : List Groups → ℕ
cells_in_all [] = 0
cells_in_all (part ∷ parts) = cells_in part.groups + cells_in_all parts
