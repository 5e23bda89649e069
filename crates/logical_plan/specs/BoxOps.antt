-- The operators that keep the cells of a box, and places of a coordinate.
use Rattle.std.specs.Prelude.{ℕ, ◌+◌, ◌==◌, ℤ, pos, ◌-ℤ◌, Bool, if◌then◌else◌, List, [], ◌∷◌, map, slice_get, slice_index_or}
use Rattle.std.specs.List.{list_any, list_all, filter_map}
use Rattle.std.specs.Ordering.{int_eq}
use Rattle.cell_values.specs.declared.datum.Row.{Row}
use Rattle.cell_values.specs.declared.schema.Bounds.{Bounds}
use Rattle.array_rows.specs.Rows.{Coordinate, rows_where}
use Rattle.array_rows.specs.Boxes.{within, by_pairs, moved}
use Rattle.logical_plan.specs.declared.parts.Fixed.{Fixed}

-- ---- places in a list

-- the items at these places, of those that there are
abbrev pub items_at : {A : Type 0} → List ℕ → List A → List A
items_at places xs = filter_map (slice_get xs) places

-- the items at all other places, of which the first is numbered n
abbrev pub items_but : {A : Type 0} → List ℕ → ℕ → List A → List A
items_but places n [] = []
items_but places n (x ∷ xs) = if list_any (λ place. place == n) places then items_but places (n + 1) xs else x ∷ items_but places (n + 1) xs

-- the numbers of a coordinate at these places
abbrev pub numbers_at : List ℕ → Coordinate → List ℤ
numbers_at places c = map (λ place. slice_index_or c place (pos 0)) places

-- ---- operators

-- the rows in the box, moved so that the box begins at 0 in each dimension
abbrev pub subarray_rows : Bounds → List Row → List Row
subarray_rows area rows = map (moved (λ c. by_pairs (λ x l. x -ℤ l) c area.lo.items)) (within area rows)

-- the coordinate has the fixed numbers
abbrev pub has_fixed : List Fixed → Coordinate → Bool
has_fixed fixed c = list_all (λ f. int_eq (slice_index_or c f.dimension (pos 0)) f.at) fixed

abbrev pub fixed_places : List Fixed → List ℕ
fixed_places = map (λ f. f.dimension)

-- the rows with the fixed numbers, without these
abbrev pub slice_rows : List Fixed → List Row → List Row
slice_rows fixed rows = map (moved (items_but (fixed_places fixed) 0)) (rows_where (has_fixed fixed) rows)
