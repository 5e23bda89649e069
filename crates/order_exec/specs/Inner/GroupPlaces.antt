-- Groups of cells by the places of a grid.
use Rattle.std.specs.Prelude.{◌≡◌, ℕ, ◌<◌, ◌≤◌, true, List, length}
use Rattle.std.specs.List.{AllZip}
use Rattle.cell_values.specs.declared.schema.Bounds.{Bounds}
use Rattle.array_rows.specs.Boxes.{is_inside}
use Rattle.array_rows.specs.Rows.{Coordinate}
use Rattle.array_geom.specs.declared.grid.Grid.{Grid}
use Rattle.array_geom.specs.Geometry.{volume}
use Rattle.array_geom.specs.Inner.Ranges.{IsGrid, is_in_grid}
use Rattle.logical_plan.specs.BoxOps.{numbers_at}
use Rattle.group_rows.specs.Inner.Places.{place_of}

-- a grid with all numbers within bounds, where few dimensions are named
pub record IsGroupGrid (dims : List ℕ) (bounds : Bounds) (grid : Grid) : Type 0 where
  pub few : length dims ≤ 6
  pub grid_is : IsGrid grid
  pub held : (c : Coordinate) → is_inside bounds c ≡ true → is_in_grid grid.low.items grid.lengths.items c ≡ true

-- the numbers of a coordinate in the named dimensions stand at this place
pub record HasGroup (dims : List ℕ) (grid : Grid) (c : Coordinate) (place : ℕ) : Type 0 where
  pub below : place < volume grid.lengths.items
  pub there : place_of grid place ≡ numbers_at dims c

-- the same of each of these positions of a grid
abbrev pub HaveGroups : List ℕ → Grid → Grid → List ℕ → List ℕ → Type 0
HaveGroups dims groups grid positions places = AllZip (λ p place. HasGroup dims groups (place_of grid p) place) positions places
