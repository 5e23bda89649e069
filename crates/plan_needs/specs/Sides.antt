-- Boxes, dimension by dimension: what an operator needs of its source for a box of its result.
use Rattle.std.specs.Prelude.{ℕ, ◌+◌, ◌==◌, Bool, true, false, ◌&&◌, ◌||◌, nat_le, int_lt, if◌then◌else◌, List}
use Rattle.std.specs.Prelude.{[], ◌∷◌, map, length, take, drop, slice_get, Option, Some, None}
use Rattle.std.specs.List.{find, list_any}
use Rattle.std.specs.Option.{option_map, option_and_then}
use Rattle.cell_values.specs.declared.schema.Bounds.{Bounds}
use Rattle.cell_values.specs.declared.schema.Dimension.{Dimension}
use Rattle.array_rows.specs.Boxes.{by_pairs, corners, meet, bounds_of}
use Rattle.logical_plan.specs.declared.parts.Fixed.{Fixed}
use Rattle.logical_plan.specs.declared.parts.Pair.{Pair}
use Rattle.logical_plan.specs.declared.parts.Reach.{Reach}
use Rattle.plan_needs.specs.declared.stretch.Stretch.{Stretch}
use Rattle.plan_needs.specs.Stretches.{stretch, all_of, nothing, is_empty, shared, lifted, grown, blocks}

-- a stretch for each dimension
abbrev pub Sides : Type 0
Sides = List Stretch

abbrev pub sides_of : Bounds → Sides
sides_of area = by_pairs stretch area.lo.items area.hi.items

abbrev pub box_of : Sides → Bounds
box_of sides = corners (map (λ s. s.first) sides) (map (λ s. s.last) sides)

-- all places of an array with these dimensions
abbrev pub whole : List Dimension → Sides
whole = map all_of

-- a box without places
abbrev pub has_empty : Sides → Bool
has_empty sides = list_any is_empty sides

-- the box, or no place of any dimension where nothing is needed
abbrev pub unless_nothing : Bool → Sides → Sides
unless_nothing none sides = if none then map (λ s. nothing) sides else sides

-- ---- boxes

-- between: what the two boxes share
abbrev pub of_between : Bounds → Sides → Sides
of_between area sides = by_pairs shared sides (sides_of area)

-- subarray: the box moved by the lowest numbers of the part
abbrev pub of_subarray : List Dimension → Bounds → Sides → Sides
of_subarray dims area sides = by_pairs lifted sides (meet (bounds_of dims) area).lo.items

-- for each dimension, the first of which is numbered n, the stretch that is given for it, else the next one; within the bounds
abbrev pub next_side : Option Stretch → Dimension → Sides → (Sides → Sides) → Sides
next_side (Some s) d sides go = shared (all_of d) s ∷ go sides
next_side None d [] go = []
next_side None d (s ∷ sides) go = shared (all_of d) s ∷ go sides

abbrev pub filled : (ℕ → Option Stretch) → ℕ → List Dimension → Sides → Sides
filled given n [] sides = []
filled given n (d ∷ dims) sides = next_side (given n) d sides (λ rest. filled given (n + 1) dims rest)

-- the one place of a dimension that is held at a number
abbrev pub held_at : List Fixed → ℕ → Option Stretch
held_at fixed n = option_map (λ f. stretch f.at f.at) (find (λ f. f.dimension == n) fixed)

-- a number that is held is beyond the bounds of its dimension
abbrev pub misses : Fixed → Option Dimension → Bool
misses f None = false
misses f (Some d) = int_lt f.at d.lo || int_lt d.hi f.at

abbrev pub has_beyond : List Dimension → List Fixed → Bool
has_beyond dims fixed = list_any (λ f. misses f (slice_get dims f.dimension)) fixed

-- slice: the box with the fixed numbers; nothing where one of them is beyond its bounds
abbrev pub of_slice : List Dimension → List Fixed → Sides → Sides
of_slice dims fixed sides = unless_nothing (has_beyond dims fixed) (filled (held_at fixed) 0 dims sides)

-- ---- joins

-- cross join, left: the left dimensions' sides
abbrev pub of_left : List Dimension → Sides → Sides
of_left left sides = take (length left) sides

-- the left dimension with which a right one is paired, and its side
abbrev pub left_of : List Pair → ℕ → Option ℕ
left_of pairs n = option_map (λ p. p.left) (find (λ p. p.right == n) pairs)

abbrev pub paired_with : List Pair → Sides → ℕ → Option Stretch
paired_with pairs sides n = option_and_then (slice_get sides) (left_of pairs n)

-- right: for a paired dimension the left one's side, else its own
abbrev pub of_right : List Dimension → List Dimension → List Pair → Sides → Sides
of_right left right pairs sides = filled (paired_with pairs sides) 0 right (drop (length left) sides)

-- ---- groups

-- regrid: the places whose blocks are in the box. This and what follows needs nothing for a box without places
abbrev pub of_regrid : List Dimension → List ℕ → Sides → Sides
of_regrid dims sizes sides = unless_nothing (has_empty sides) (by_pairs (λ f s. f s) (by_pairs blocks dims sizes) sides)

-- the side at the place at which a dimension is named, if it is named
abbrev pub side_named : List ℕ → Sides → ℕ → Option Stretch
side_named [] sides n = None
side_named (place ∷ places) [] n = None
side_named (place ∷ places) (s ∷ sides) n = if place == n then Some s else side_named places sides n

-- what is given of a dimension, else all of it
abbrev pub clipped : Dimension → Option Stretch → Stretch
clipped d None = all_of d
clipped d (Some s) = shared (all_of d) s

abbrev pub named_sides : List ℕ → Sides → ℕ → List Dimension → Sides
named_sides places sides n [] = []
named_sides places sides n (d ∷ dims) = clipped d (side_named places sides n) ∷ named_sides places sides (n + 1) dims

-- aggregate: the places whose groups are in the box. Without named dimensions there is one group of all
abbrev pub of_aggregate : List Dimension → List ℕ → Sides → Sides
of_aggregate dims [] sides = unless_nothing (has_empty sides) (whole dims)
of_aggregate dims (place ∷ places) sides = unless_nothing (has_empty sides) (named_sides (place ∷ places) sides 0 dims)

-- ---- windows

-- no window reaches farther than its dimension's overlap
abbrev pub is_near : Reach → Dimension → Bool
is_near r d = nat_le r.before d.overlap && nat_le r.after d.overlap

abbrev pub are_near : List Reach → List Dimension → Bool
are_near [] dims = true
are_near (r ∷ reach) [] = false
are_near (r ∷ reach) (d ∷ dims) = is_near r d && are_near reach dims

-- what the windows of the box reach
abbrev pub of_windows : List Dimension → List Reach → Sides → Sides
of_windows dims reach sides = unless_nothing (has_empty sides) (by_pairs (λ f s. f s) (by_pairs grown dims reach) sides)

-- window: the box alone, where each chunk of a scan has what its windows reach. A scan has one leaf, of which a box without places
-- meets no chunk
abbrev pub of_window : Bool → List Dimension → List Reach → Sides → Sides
of_window is_scan dims reach sides = if is_scan && are_near reach dims then sides else of_windows dims reach sides
