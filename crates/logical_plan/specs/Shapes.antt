-- Operators that give cells other coordinates, and that put two arrays into one.
use Rattle.std.specs.Prelude.{ℕ, ◌+◌, ◌-◌, ◌*◌, ◌/◌, ℤ, pos, ◌+ℤ◌, ◌-ℤ◌, unsigned_abs, List, [], ◌∷◌, ◌++◌, map, reverse, Result, Ok, Err}
use Rattle.std.specs.List.{flat_map}
use Rattle.cell_values.specs.declared.datum.Datum.TheVariants.{Int}
use Rattle.cell_values.specs.declared.datum.Cell.{Cell}
use Rattle.cell_values.specs.declared.datum.Cell.TheVariants.{Full, Doubt}
use Rattle.cell_values.specs.declared.datum.Row.{Row}
use Rattle.cell_values.specs.declared.datum.Broken.{Broken}
use Rattle.cell_values.specs.declared.schema.Bounds.{Bounds}
use Rattle.cell_values.specs.declared.schema.Dimension.{Dimension}
use Rattle.array_rows.specs.Boxes.{by_pairs, corners, moved}
use Rattle.array_rows.specs.Rows.{Coordinate, placed, in_order}
use Rattle.logical_plan.specs.Faults.{if_whole}
use Rattle.logical_plan.specs.Places.{count_from, how_many}

-- ---- transpose: each cell at its coordinate backwards

abbrev pub backwards : Coordinate → Coordinate
backwards c = reverse c

abbrev pub transpose_rows : List Row → List Row
transpose_rows rows = in_order (map (moved backwards) rows)

-- ---- reverse: each cell at the place opposite, as far from the high bound as it was from the low one

abbrev pub opposite : Dimension → ℤ → ℤ
opposite d x = (d.lo +ℤ d.hi) -ℤ x

abbrev pub mirrored : List Dimension → Coordinate → Coordinate
mirrored dims c = by_pairs opposite dims c

abbrev pub reverse_rows : List Dimension → List Row → List Row
reverse_rows dims rows = in_order (map (moved (mirrored dims)) rows)

-- ---- unpack: the cells numbered from n on, each with its coordinate before its values; the first one in doubt breaks the array

abbrev pub after_cell : ℕ → Row → Cell → Result (List Row) Broken → Result (List Row) Broken
after_cell n row (Full vs) rest = if_whole (λ rows. placed (pos n ∷ []) (Full (map Int row.at.items ++ vs)) ∷ rows) rest
after_cell n row (Doubt kind) rest = Err (record { at = row.at; kind = kind })

abbrev pub unpacked_from : ℕ → List Row → Result (List Row) Broken
unpacked_from n [] = Ok []
unpacked_from n (row ∷ rows) = after_cell n row row.cell (unpacked_from (n + 1) rows)

abbrev pub unpack_rows : List Row → Result (List Row) Broken
unpack_rows rows = unpacked_from 0 rows

-- ---- xgrid: each cell at all places of its block

-- the first and the last place of the block of a place
abbrev pub first_place : Dimension → ℕ → ℤ → ℤ
first_place d size x = d.lo +ℤ pos (unsigned_abs (x -ℤ d.lo) * size)

abbrev pub last_place : Dimension → ℕ → ℤ → ℤ
last_place d size x = d.lo +ℤ pos (unsigned_abs (x -ℤ d.lo) * size + (size - 1))

abbrev pub block_of : List Dimension → List ℕ → Coordinate → Bounds
block_of dims sizes c = corners (by_pairs (λ f x. f x) (by_pairs first_place dims sizes) c) (by_pairs (λ f x. f x) (by_pairs last_place dims sizes) c)

-- the place whose block has a place
abbrev pub place_of : Dimension → ℕ → ℤ → ℤ
place_of d size y = d.lo +ℤ pos (unsigned_abs (y -ℤ d.lo) / size)

abbrev pub blocks_back : List Dimension → List ℕ → Coordinate → Coordinate
blocks_back dims sizes y = by_pairs (λ f x. f x) (by_pairs place_of dims sizes) y

-- all coordinates between two, in row-major order
abbrev pub places_between : List ℤ → List ℤ → List Coordinate
places_between [] hi = [] ∷ []
places_between (l ∷ lo) [] = [] ∷ []
places_between (l ∷ lo) (h ∷ hi) = flat_map (λ x. map (λ c. x ∷ c) (places_between lo hi)) (count_from l (how_many l h))

abbrev pub places_of : Bounds → List Coordinate
places_of area = places_between area.lo.items area.hi.items

-- a cell at each of these coordinates
abbrev pub spread_over : Cell → List Coordinate → List Row
spread_over cell cs = map (λ c. placed c cell) cs

abbrev pub xgrid_rows : List Dimension → List ℕ → List Row → List Row
xgrid_rows dims sizes rows = in_order (flat_map (λ row. spread_over row.cell (places_of (block_of dims sizes row.at.items))) rows)

-- ---- merge: the left's cell, else the right's. Of two rows at one coordinate the first stays

abbrev pub merge_rows : List Row → List Row → List Row
merge_rows left right = in_order (left ++ right)

-- ---- concat: the left's cells, and after them the right's, moved along the first dimension

abbrev pub along : ℤ → Coordinate → Coordinate
along by [] = []
along by (x ∷ c) = (x +ℤ by) ∷ c

-- how far the right's cells are moved: its first place then follows the left's last one
abbrev pub step_between : List Dimension → List Dimension → ℤ
step_between (l ∷ left) (r ∷ right) = (l.hi +ℤ pos 1) -ℤ r.lo
step_between _ _ = pos 0

abbrev pub concat_rows : ℤ → List Row → List Row → List Row
concat_rows by left right = left ++ map (moved (along by)) right
