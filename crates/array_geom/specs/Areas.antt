-- Boxes that are moved, and whether they hold anything.
use Rattle.std.specs.Prelude.{◌≡◌, ℤ, ◌+ℤ◌, int_le, Bool, true, false, ◌&&◌, List, [], ◌∷◌, length}
use Rattle.std.specs.List.{list_all}
use Rattle.array_rows.specs.Bounds.{Bounds}
use Rattle.array_rows.specs.Table.{fits_int64}
use Rattle.array_rows.specs.Rows.{Coordinate}
use Rattle.array_rows.specs.Boxes.{by_pairs, corners}

-- a coordinate moved by a number in each dimension
abbrev pub moved_by : List ℤ → Coordinate → Coordinate
moved_by by c = by_pairs (λ x n. x +ℤ n) c by

-- a box moved so
abbrev pub shifted : Bounds → List ℤ → Bounds
shifted area by = corners (moved_by by area.lo.items) (moved_by by area.hi.items)

-- the box has as many dimensions as the list has items
abbrev pub HasDimensions : {A : Type 0} → Bounds → List A → Type 0
HasDimensions area dims = (length area.lo.items ≡ length dims) × (length area.hi.items ≡ length dims)

-- all numbers of its corners have 64 bits
abbrev pub is_in_range : Bounds → Bool
is_in_range area = list_all fits_int64 area.lo.items && list_all fits_int64 area.hi.items

-- whether it holds a coordinate: no low number is above its high one
abbrev pub are_ordered : List ℤ → List ℤ → Bool
are_ordered [] [] = true
are_ordered (l ∷ lo) (h ∷ hi) = int_le l h && are_ordered lo hi
are_ordered _ _ = false

abbrev pub holds_some : Bounds → Bool
holds_some area = are_ordered area.lo.items area.hi.items
