-- Chunks whose cells are ranked from their columns.
use Rattle.std.specs.Prelude.{◌≡◌, ℕ, ◌<◌, ℤ, List, [], ◌∷◌, ◌++◌, map, length, slice_index_or}
use Rattle.std.specs.List.{AllByRecursion}
use Rattle.cell_values.specs.declared.datum.Cell.{Cell}
use Rattle.cell_values.specs.declared.datum.Cell.TheVariants.{Full}
use Rattle.cell_values.specs.declared.datum.Datum.TheVariants.{Int}
use Rattle.cell_values.specs.declared.datum.Row.{Row}
use Rattle.cell_values.specs.declared.schema.Dimension.{Dimension}
use Rattle.array_rows.specs.Boxes.{by_pairs}
use Rattle.array_rows.specs.Inner.CellsIn.{value_in}
use Rattle.array_rows.specs.Rows.{Coordinate}
use Rattle.array_geom.specs.declared.chunk.Chunk.{Chunk}
use Rattle.array_geom.specs.declared.grid.Grid.{Grid}
use Rattle.array_geom.specs.Geometry.{coordinate_in, frame_lengths, frame_low, volume}
use Rattle.array_geom.specs.Link.{chunk_rows}
use Rattle.logical_plan.specs.BoxOps.{numbers_at}
use Rattle.logical_plan.specs.Groups.{attribute_of, group_at, number_of}
use Rattle.logical_plan.specs.Ordered.{below}
use Rattle.group_rows.specs.Inner.Places.{place_of}
use Rattle.order_exec.specs.Inner.GroupNumbers.{AreRising, ranks_in}
use Rattle.order_exec.specs.Inner.GroupPlaces.{HaveGroups}

-- the rows of chunks one chunk after the other, those of their margins too
abbrev pub rows_of_chunks : List Dimension → List ℕ → List Chunk → List Row
rows_of_chunks dims margins [] = []
rows_of_chunks dims margins (chunk ∷ chunks) = chunk_rows dims margins chunk ++ rows_of_chunks dims margins chunks

abbrev pub number_at : ℕ → Row → ℤ
number_at x row = number_of (attribute_of x row.cell)

-- the value of a row is a number
abbrev pub HasNumber : ℕ → Row → Type 0
HasNumber x row = attribute_of x row.cell ≡ Int (number_at x row)

-- the numbers of the rows that agree with a coordinate in the named dimensions
abbrev pub numbers_with : ℕ → List ℕ → Coordinate → List Row → List ℤ
numbers_with x dims q rows = map (number_at x) (group_at (numbers_at dims) q rows)

-- all values are numbers, and these stand by the places of their groups
pub record HoldNumbers (x : ℕ) (dims : List ℕ) (grid : Grid) (rows : List Row) (groups : List (List ℤ)) : Type 0 where
  pub long : length groups ≡ volume grid.lengths.items
  pub numbers : AllByRecursion (HasNumber x) rows
  pub each : (p : ℕ) → p < volume grid.lengths.items → slice_index_or groups p [] ≡ numbers_with x dims (place_of grid p) rows

-- as many numbers below a number as there are in the group with each place
pub record CountNumbers (x : ℕ) (dims : List ℕ) (grid : Grid) (rows : List Row) (groups : List (List ℤ)) : Type 0 where
  pub long : length groups ≡ volume grid.lengths.items
  pub numbers : AllByRecursion (HasNumber x) rows
  pub rising : AreRising groups
  pub counts : (p : ℕ) → p < volume grid.lengths.items → (n : ℤ) → below (Int n) (map Int (slice_index_or groups p [])) ≡ below (Int n) (map Int (numbers_with x dims (place_of grid p) rows))

-- a cell with a number and its rank
abbrev pub ranked_number : ℤ → ℤ → Cell
ranked_number n rank = Full (Int n ∷ Int rank ∷ [])

-- the frame of a chunk
abbrev pub frame_grid : List Dimension → List ℕ → Chunk → Grid
frame_grid dims margins chunk = record { low = record { items = frame_low dims margins chunk.at.items }; lengths = record { items = frame_lengths dims margins } }

-- the numbers of a chunk's cells, and the places of their groups
pub record AreTaken (x : ℕ) (dims : List ℕ) (grid : Grid) (sides : List Dimension) (margins : List ℕ) (chunk : Chunk) (places : List ℕ) (numbers : List ℤ) : Type 0 where
  pub have : HaveGroups dims grid (frame_grid sides margins chunk) chunk.positions places
  pub values : map (value_in x) chunk.cells ≡ map Int numbers

-- the chunk with the numbers of a chunk's cells and their ranks
pub record IsRanked (x : ℕ) (dims : List ℕ) (grid : Grid) (sides : List Dimension) (margins : List ℕ) (groups : List (List ℤ)) (chunk made : Chunk) : Type 0 where
  pub at : made.at ≡ chunk.at
  pub positions : made.positions ≡ chunk.positions
  pub places : List ℕ
  pub numbers : List ℤ
  pub taken : AreTaken x dims grid sides margins chunk places numbers
  pub cells : made.cells ≡ by_pairs ranked_number numbers (ranks_in groups places numbers)
