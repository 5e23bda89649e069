-- Joins of two arrays.
use Rattle.std.specs.Prelude.{ℕ, pos, Bool, List, ◌++◌, map, slice_index_or}
use Rattle.std.specs.List.{list_all, flat_map}
use Rattle.std.specs.Option.{option_map}
use Rattle.std.specs.Ordering.{int_eq}
use Rattle.cell_values.specs.declared.datum.Cell.{Cell}
use Rattle.cell_values.specs.declared.datum.Cell.TheVariants.{Full, Doubt}
use Rattle.cell_values.specs.declared.datum.Row.{Row}
use Rattle.array_rows.specs.Rows.{Coordinate, placed, rows_where, cell_at}
use Rattle.array_rows.specs.Cellwise.{cell_wise}
use Rattle.logical_plan.specs.declared.parts.Pair.{Pair}
use Rattle.logical_plan.specs.BoxOps.{items_but}

-- two cells side by side: a doubt of the left, a doubt of the right, both lists of values
abbrev pub cell_beside : Cell → Cell → Cell
cell_beside (Doubt kind) r = Doubt kind
cell_beside (Full vs) (Doubt kind) = Doubt kind
cell_beside (Full vs) (Full ws) = Full (vs ++ ws)

-- a cell where both sides have one
abbrev pub join_rows : List Row → List Row → List Row
join_rows left right = cell_wise (λ c cell. option_map (cell_beside cell) (cell_at right c)) left

-- the coordinates agree in the paired dimensions
abbrev pub agree : List Pair → Coordinate → Coordinate → Bool
agree pairs l r = list_all (λ p. int_eq (slice_index_or l p.left (pos 0)) (slice_index_or r p.right (pos 0))) pairs

abbrev pub right_places : List Pair → List ℕ
right_places = map (λ p. p.right)

-- a left coordinate and what a right one has besides the paired numbers
abbrev pub cross_at : List Pair → Coordinate → Coordinate → Coordinate
cross_at pairs l r = l ++ items_but (right_places pairs) 0 r

-- a cell for each two cells whose coordinates agree
abbrev pub cross_rows : List Pair → List Row → List Row → List Row
cross_rows pairs left right =
    flat_map (λ l. map (λ r. placed (cross_at pairs l.at.items r.at.items) (cell_beside l.cell r.cell))
    (rows_where (agree pairs l.at.items) right)) left
