-- Numbers at the places of a grid, and windows as grids.
use Rattle.std.specs.Prelude.{◌≡◌, ℕ, zero, suc, ◌+◌, ◌/◌, ◌<◌, ◌≤◌, ◌^◌, ◌-◌, ℤ, pos, negsuc, ◌≤ℤ◌, ◌+ℤ◌, ◌-ℤ◌, unsigned_abs, Bool, true, false, cond, ◌||◌, List, [], ◌∷◌, length, map, slice_index_or, Option, Some, None}
use Rattle.std.specs.Ordering.{is_eq}
use Rattle.cell_values.specs.declared.datum.Datum.TheVariants.{Null, Int}
use Rattle.cell_values.specs.declared.datum.Cell.{Cell}
use Rattle.cell_values.specs.declared.datum.Cell.TheVariants.{Full, Doubt}
use Rattle.cell_values.specs.declared.datum.Row.{Row}
use Rattle.cell_values.specs.declared.schema.Bounds.{Bounds}
use Rattle.array_rows.specs.Boxes.{by_pairs, is_inside}
use Rattle.array_rows.specs.Rows.{Coordinate, cell_at, row_major}
use Rattle.array_geom.specs.declared.grid.Grid.{Grid}
use Rattle.array_geom.specs.Geometry.{coordinate_in, position_in, volume}
use Rattle.array_geom.specs.Inner.Ranges.{AreLow, IsGrid, is_in_grid}
use Rattle.logical_plan.specs.Groups.{window}
use Rattle.window_overlap.specs.Reaches.{AreShort}
use Rattle.window_overlap.specs.declared.dense.columns.Dense.{Dense}
use Rattle.logical_plan.specs.declared.parts.Aggregate.{Aggregate}
use Rattle.logical_plan.specs.declared.parts.Reach.{Reach}
use Rattle.agg_states.specs.Inner.Summary.{Summary}
use Rattle.agg_states.specs.Stands.{StandsFor}

-- ---- boxes

-- how many numbers there are from one to another
abbrev pub span : ℤ → ℤ → ℕ
span l h = unsigned_abs (h -ℤ l) + 1

-- numbers that are low and near enough, so that there are at most so many coordinates
abbrev pub HaveSpans : List ℤ → List ℤ → ℕ → Type 0
HaveSpans [] [] limit = 1 ≤ limit
HaveSpans (l ∷ lo) (h ∷ hi) limit =
    (l ≤ℤ h) × (negsuc (2 ^ 62 - 1) ≤ℤ l) × (h ≤ℤ pos (2 ^ 62)) × (span l h ≤ limit) × HaveSpans lo hi (limit / span l h)
HaveSpans _ _ _ = ⊥

-- the low corner of a window, counted from itself, and its high corner
abbrev pub zeros : List Reach → List ℤ
zeros = map (λ r. pos 0)

abbrev pub widths : List Reach → List ℤ
widths = map (λ r. pos (r.before + r.after))

abbrev pub place_of : Grid → ℕ → Coordinate
place_of grid p = coordinate_in grid.low.items grid.lengths.items p

-- for each place of a window that of its coordinate in another grid
pub record AreOffsets (window within : Grid) (offsets : List ℕ) : Type 0 where
  pub long : length offsets ≡ volume window.lengths.items
  pub each : (k : ℕ) → k < volume window.lengths.items
      → slice_index_or offsets k 0 ≡ position_in within.low.items within.lengths.items (place_of window k)

-- ---- numbers at places

-- a cell whose attribute is this number
abbrev pub HasNumber : ℕ → Option Cell → ℤ → Type 0
HasNumber attribute None n = ⊥
HasNumber attribute (Some (Doubt kind)) n = ⊥
HasNumber attribute (Some (Full vs)) n = slice_index_or vs attribute Null ≡ Int n

-- at which places there is a row, and its number
pub record AreNumbers (grid : Grid) (rows : List Row) (attribute : ℕ) (present : List Bool) (numbers : List ℤ) : Type 0 where
  pub present_long : length present ≡ volume grid.lengths.items
  pub numbers_long : length numbers ≡ volume grid.lengths.items
  pub absent : (p : ℕ) → p < volume grid.lengths.items → slice_index_or present p false ≡ false → cell_at rows (place_of grid p) ≡ None
  pub there : (p : ℕ) → p < volume grid.lengths.items → slice_index_or present p false ≡ true
      → HasNumber attribute (cell_at rows (place_of grid p)) (slice_index_or numbers p (pos 0))

-- ---- the cells of a window

-- a coordinate so far from another
abbrev pub beyond : Coordinate → Coordinate → Coordinate
beyond c u = by_pairs (λ x y. x +ℤ y) c u

-- the coordinate of a place of a window with this low corner
abbrev pub spot : Grid → Coordinate → ℕ → Coordinate
spot window corner k = beyond corner (place_of window k)

-- whether it is that of one of the first places
abbrev pub visited : Grid → Coordinate → ℕ → Coordinate → Bool
visited window corner zero d = false
visited window corner (suc k) d = visited window corner k d || is_eq (row_major (spot window corner k) d)

-- the state of the rows at the first places
pub record HasSeen (g : Aggregate) (window : Grid) (corner : Coordinate) (rows : List Row) (k : ℕ) (state : Summary) : Type 0 where
  pub seen : List Row
  pub same : (d : Coordinate) → cell_at seen d ≡ cond (visited window corner k d) (cell_at rows d) None
  pub stands : StandsFor g seen state

-- the low corner of a window
abbrev pub corner_of : List Reach → Coordinate → Coordinate
corner_of reach c = by_pairs (λ x r. x -ℤ pos r.before) c reach

-- ---- all columns, and what a window asks for

abbrev pub AreColumns : Grid → List Row → List Aggregate → List Dense → Type 0
AreColumns grid rows [] [] = Unit {0}
AreColumns grid rows (g ∷ gs) (d ∷ ds) = AreNumbers grid rows g.attribute d.present d.numbers × AreColumns grid rows gs ds
AreColumns grid rows _ _ = ⊥

abbrev pub IsFull : Cell → Type 0
IsFull (Full vs) = Unit {0}
IsFull (Doubt kind) = ⊥

pub record IsSet (reach : List Reach) (grid w origin : Grid) (offsets : List ℕ) (area : Bounds) : Type 0 where
  pub grid_is : IsGrid grid
  pub window_is : IsGrid w
  pub low : w.low.items ≡ zeros reach
  pub lengths : w.lengths.items ≡ by_pairs span (zeros reach) (widths reach)
  pub origin_low : origin.low.items ≡ zeros reach
  pub origin_lengths : origin.lengths.items ≡ grid.lengths.items
  pub fits : (u : Coordinate) → is_in_grid w.low.items w.lengths.items u ≡ true → is_in_grid origin.low.items origin.lengths.items u ≡ true
  pub offsets_are : AreOffsets w origin offsets
  pub short : AreShort reach
  pub held : (c : Coordinate) → is_inside area c ≡ true → (d : Coordinate) → is_inside (window reach c) d ≡ true
      → is_in_grid grid.low.items grid.lengths.items d ≡ true
  pub each : (c : Coordinate) → is_inside area c ≡ true → length c ≡ length reach
  pub low_places : (c : Coordinate) → is_inside area c ≡ true → AreLow c
