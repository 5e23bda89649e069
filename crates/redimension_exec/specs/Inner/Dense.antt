-- Cells that land at the places of a grid, and states by these places.
use Rattle.std.specs.Prelude.{◌≡◌, ℕ, ◌+◌, ◌<◌, ◌≤◌, ℤ, pos, Bool, true, false, List, [], ◌∷◌, ◌++◌, map, filter, length, slice_index_or, slice_set, nat_lt, None}
use Rattle.std.specs.List.{AllByRecursion, AllZip, list_any}
use Rattle.std.specs.Ordering.{is_eq}
use Rattle.std.specs.declared.cmp.Ordering.TheVariants.{Less}
use Rattle.cell_values.specs.declared.datum.Datum.{Datum}
use Rattle.cell_values.specs.declared.datum.Datum.TheVariants.{Int}
use Rattle.cell_values.specs.declared.datum.Row.{Row}
use Rattle.cell_values.specs.declared.schema.Bounds.{Bounds}
use Rattle.cell_values.specs.declared.schema.Dimension.{Dimension}
use Rattle.array_rows.specs.Boxes.{is_inside}
use Rattle.array_rows.specs.Rows.{Coordinate, cell_at, put_row, row_major}
use Rattle.array_geom.specs.declared.chunk.Chunk.{Chunk}
use Rattle.array_geom.specs.declared.grid.Grid.{Grid}
use Rattle.array_geom.specs.Geometry.{core, volume}
use Rattle.array_geom.specs.Inner.Ranges.{IsGrid, is_in_grid}
use Rattle.array_geom.specs.Link.{chunk_rows}
use Rattle.logical_plan.specs.declared.parts.AggFunction.TheVariants.{CountAll}
use Rattle.logical_plan.specs.declared.parts.Aggregate.{Aggregate}
use Rattle.logical_plan.specs.Groups.{attribute_of, fault_for, number_of}
use Rattle.logical_plan.specs.Redimension.{Origin, Landed, lands, landed_at, landing_of}
use Rattle.agg_states.specs.Stands.{StandsFor}
use Rattle.agg_states.specs.Inner.Summary.{Summary}
use Rattle.group_rows.specs.declared.rows.groups.Group.{Group}
use Rattle.group_rows.specs.Counts.{cells_in}
use Rattle.group_rows.specs.Grouped.{AreInOrder, IsGroupOf, states_at}
use Rattle.group_rows.specs.Inner.Places.{place_of}
use Rattle.redimension_exec.specs.declared.places.places.Place.{Place}
use Rattle.redimension_exec.specs.Inner.Counting.{has_counted}
use Rattle.redimension_exec.specs.Inner.Grouping.{landed_sets}
use Rattle.redimension_exec.specs.Inner.Places.{origin}

-- ---- where cells land

-- these values are all numbers, which were added to others
pub record HasNumbers (old new : List ℤ) (values : List Datum) : Type 0 where
  pub each : AllByRecursion (λ v. v ≡ Int (number_of v)) values
  pub numbers : new ≡ old ++ map number_of values

-- a grid of all coordinates within bounds, none of whose dimensions is synthetic
pub record IsLandingGrid (places : List Place) (bounds : Bounds) (grid : Grid) : Type 0 where
  pub few : length places ≤ 6
  pub plain : has_counted (map origin places) ≡ false
  pub grid_is : IsGrid grid
  pub held : (c : Coordinate) → is_inside bounds c ≡ true → is_in_grid grid.low.items grid.lengths.items c ≡ true

-- a row of an area lands at this place of the grid
pub record IsTargetOf (area : Bounds) (origins : List Origin) (bounds : Bounds) (grid : Grid) (row : Row) (target : ℕ) : Type 0 where
  pub inside : is_inside area row.at.items ≡ true
  pub below : target < volume grid.lengths.items
  pub there : landing_of origins bounds false [] row.at.items row.cell ≡ lands (place_of grid target)

-- the places at which the rows of a chunk land, which all stand in its core
abbrev pub AreTargetsIn : List Dimension → List ℕ → Chunk → List Origin → Bounds → Grid → List ℕ → Type 0
AreTargetsIn dims margins chunk origins bounds grid targets =
    AllZip (IsTargetOf (core dims chunk.at.items) origins bounds grid) (chunk_rows dims margins chunk) targets

-- rows with the coordinates at which they land
abbrev pub landed_there : Grid → List ℕ → List Row → List Landed
landed_there grid [] rows = []
landed_there grid (t ∷ targets) [] = []
landed_there grid (t ∷ targets) (row ∷ rows) = (place_of grid t, row) ∷ landed_there grid targets rows

-- whether some row lands at a place
abbrev pub is_target : Grid → List ℕ → ℕ → Bool
is_target grid targets p = list_any (λ t. is_eq (row_major (place_of grid t) (place_of grid p))) targets

-- for each place whether some row lands there
pub record AreMarks (grid : Grid) (targets : List ℕ) (marks : List Bool) : Type 0 where
  pub long : length marks ≡ volume grid.lengths.items
  pub each : (p : ℕ) → p < volume grid.lengths.items → slice_index_or marks p false ≡ is_target grid targets p

-- ---- states by places

abbrev pub no_cells : Summary
no_cells = record { function = CountAll; fault = None; cells = 0; values = 0; total = pos 0; best = None }

-- states of no cells
abbrev pub AreEmpty : Aggregate → List Summary → Type 0
AreEmpty g states = AllByRecursion (λ state. StandsFor g [] state × (state.cells ≡ 0)) states

-- the state at a place with a number more
pub record Takes (place : ℕ) (number : ℤ) (old new : List Summary) : Type 0 where
  pub state : Summary
  pub set : new ≡ slice_set old place state
  pub stands : (g : Aggregate) (rows : List Row) (row : Row) → StandsFor g rows (slice_index_or old place no_cells)
      → attribute_of g.attribute row.cell ≡ Int number → fault_for g.function g.attribute row.cell ≡ None → cell_at rows row.at.items ≡ None
      → StandsFor g (put_row row rows) state
  pub cells : state.cells ≡ (slice_index_or old place no_cells).cells + 1

-- for each place a state of the cells that landed there
pub record IsColumn (g : Aggregate) (grid : Grid) (all : List Landed) (states : List Summary) : Type 0 where
  pub long : length states ≡ volume grid.lengths.items
  pub each : (p : ℕ) → p < volume grid.lengths.items → StandsFor g (landed_at all (place_of grid p)) (slice_index_or states p no_cells)

-- ---- groups by places

-- how many rows land at the first places
abbrev pub count_below : ℕ → List ℕ → ℕ
count_below p targets = length (filter (λ t. nat_lt t p) targets)

-- the groups of what landed at the first places of a grid
pub record AreGroupsUpTo (gs : List Aggregate) (grid : Grid) (targets : List ℕ) (rows : List Row) (p : ℕ) (groups : List Group) : Type 0 where
  pub in_order : AreInOrder groups
  pub behind : (q : ℕ) → p ≤ q → q < volume grid.lengths.items → AllByRecursion (λ group. row_major group.at.items (place_of grid q) ≡ Less) groups
  pub there : (q : ℕ) → q < p → IsGroupOf gs (landed_sets (landed_there grid targets rows) (place_of grid q)) (states_at groups (place_of grid q))
  pub nowhere : (c : Coordinate) → ((q : ℕ) → q < p → place_of grid q ≡ c → ⊥) → states_at groups c ≡ None
  pub cells : cells_in groups ≤ count_below p targets
