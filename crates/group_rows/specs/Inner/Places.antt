-- The cells of a chunk at their places, and how they are grouped.
use Rattle.std.specs.Prelude.{◌≡◌, ℕ, ◌<◌, ◌≤◌, Bool, true, IsTrue, List, drop, length}
use Rattle.std.specs.List.{AllByRecursion}
use Rattle.cell_values.specs.declared.datum.Cell.{Cell}
use Rattle.cell_values.specs.declared.datum.Row.{Row}
use Rattle.array_rows.specs.Boxes.{bounds_of, is_inside}
use Rattle.array_rows.specs.Rows.{Coordinate}
use Rattle.array_geom.specs.declared.grid.Grid.{Grid}
use Rattle.array_geom.specs.Geometry.{coordinate_in, volume}
use Rattle.array_geom.specs.Inner.Ranges.{AreNear}
use Rattle.array_geom.specs.Link.{rows_in}
use Rattle.logical_plan.specs.BoxOps.{numbers_at}
use Rattle.group_rows.specs.declared.grouping.keys.Grouping.{Grouping}
use Rattle.group_rows.specs.declared.grouping.keys.Grouping.TheVariants.{Named, Blocks}
use Rattle.group_rows.specs.Inner.Keys.{block_at}

-- the rows of the cells from a number on, which stand at these places of a grid
abbrev pub rows_at : Grid → List ℕ → List Cell → ℕ → List Row
rows_at grid positions cells from = rows_in grid.low.items grid.lengths.items positions (drop from cells)

-- the coordinate at a place of a grid
abbrev pub place_of : Grid → ℕ → Coordinate
place_of grid p = coordinate_in grid.low.items grid.lengths.items p

-- these are places of a grid
abbrev pub ArePlaces : Grid → List ℕ → Type 0
ArePlaces grid positions = AllByRecursion (λ p. p < volume grid.lengths.items) positions

-- the coordinate of the group of a cell
abbrev pub key_of : Grouping → Coordinate → Coordinate
key_of (Named places) c = numbers_at places.now c
key_of (Blocks dims sizes) c = block_at dims.now sizes.now c

-- a cell that has a group
abbrev pub HasKey : Grouping → Coordinate → Type 0
HasKey (Named places) c = length places.now ≤ 6
HasKey (Blocks dims sizes) c = (length dims.now ≤ 6) × AreNear dims.now × IsTrue (is_inside (bounds_of dims.now) c)

-- the cell at each place has a group
abbrev pub HaveKeys : Grouping → Grid → List ℕ → Type 0
HaveKeys grouping grid positions = AllByRecursion (λ p. HasKey grouping (place_of grid p)) positions

-- the cell at each place is in the group at this coordinate
abbrev pub HaveKey : Grouping → Grid → Coordinate → List ℕ → Type 0
HaveKey grouping grid at positions = AllByRecursion (λ p. key_of grouping (place_of grid p) ≡ at) positions

abbrev pub AreMarked : List Bool → Type 0
AreMarked marks = AllByRecursion (λ mark. mark ≡ true) marks
