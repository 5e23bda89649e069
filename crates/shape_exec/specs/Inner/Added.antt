-- The numbers of the chunks into which cells of other chunks come, and moves within bounds.
use Rattle.std.specs.Prelude.{◌≡◌, ℕ, ℤ, ◌+ℤ◌, ◌-ℤ◌, true, List, [], ◌∷◌}
use Rattle.std.specs.Int.{w64, saturate_signed}
use Rattle.std.specs.List.{AllByRecursion}
use Rattle.arrayvec.specs.ArrayVec.{ArrayVec}
use Rattle.cell_values.specs.declared.schema.Dimension.{Dimension}
use Rattle.cell_values.specs.declared.schema.Schema.{Schema}
use Rattle.cell_values.specs.Schemas.{IsValid}
use Rattle.array_rows.specs.Boxes.{is_inside, bounds_of}
use Rattle.array_rows.specs.Rows.{Coordinate}
use Rattle.array_geom.specs.declared.chunk.Chunk.{Chunk}
use Rattle.array_geom.specs.Geometry.{ChunkNumber, chunk_of, coordinate_in, coordinate_at}
use Rattle.array_geom.specs.Link.{is_listed}
use Rattle.chunk_cells.specs.Inner.Numbers.{numbers_in}
use Rattle.exec_box.specs.Inner.Reached.{HaveCores}
use Rattle.shape_rows.specs.Laws.{CanFollow}
use Rattle.logical_plan.specs.ShapeSchemas.{concat_schema}
use Rattle.logical_plan.specs.Shapes.{step_between}

-- the chunks of all places that come from a coordinate are listed
abbrev pub AreListed : List Dimension → (Coordinate → Coordinate) → List (ArrayVec ℕ) → Coordinate → Type 0
AreListed dims back found at = (y : Coordinate) → is_inside (bounds_of dims) y ≡ true → back y ≡ at → is_listed (chunk_of dims y) (numbers_in found) ≡ true

-- what was listed, and the chunk of a place
pub record AddsPlace (dims : List Dimension) (y : Coordinate) (old new : List (ArrayVec ℕ)) : Type 0 where
  pub kept : (k : ChunkNumber) → is_listed k (numbers_in old) ≡ true → is_listed k (numbers_in new) ≡ true
  pub listed : is_listed (chunk_of dims y) (numbers_in new) ≡ true
  pub cores : HaveCores dims old → HaveCores dims new

-- what was listed, and the chunks of all places that come from a coordinate
pub record AddsPlaces (dims : List Dimension) (back : Coordinate → Coordinate) (at : Coordinate) (old new : List (ArrayVec ℕ)) : Type 0 where
  pub kept : (k : ChunkNumber) → is_listed k (numbers_in old) ≡ true → is_listed k (numbers_in new) ≡ true
  pub reached : AreListed dims back new at
  pub cores : HaveCores dims old → HaveCores dims new

-- the same for the coordinates at places of a box
pub record AddsAt (dims : List Dimension) (back : Coordinate → Coordinate) (low : List ℤ) (lengths positions : List ℕ) (old new : List (ArrayVec ℕ)) : Type 0 where
  pub kept : (k : ChunkNumber) → is_listed k (numbers_in old) ≡ true → is_listed k (numbers_in new) ≡ true
  pub reached : AllByRecursion (λ p. AreListed dims back new (coordinate_in low lengths p)) positions
  pub cores : HaveCores dims old → HaveCores dims new

-- numbers of cores, among them those of the chunks into which the cells of chunks come
abbrev pub AreReachedOf : List Dimension → (Coordinate → Coordinate) → List Dimension → List ℕ → List (ArrayVec ℕ) → Chunk → Type 0
AreReachedOf dims back old margins found chunk = AllByRecursion (λ p. AreListed dims back found (coordinate_at old margins chunk.at.items p)) chunk.positions

pub record HaveReached (dims : List Dimension) (back : Coordinate → Coordinate) (old : List Dimension) (margins : List ℕ) (chunks : List Chunk) (found : List (ArrayVec ℕ)) : Type 0 where
  pub cores : HaveCores dims found
  pub reached : AllByRecursion (AreReachedOf dims back old margins found) chunks

-- a move within bounds, and the way back
pub record IsMove (source target : List Dimension) (place back : Coordinate → Coordinate) : Type 0 where
  pub comes : (c : Coordinate) → is_inside (bounds_of source) c ≡ true → is_inside (bounds_of target) (place c) ≡ true
  pub there : (c : Coordinate) → is_inside (bounds_of source) c ≡ true → back (place c) ≡ c
  pub again : (y : Coordinate) → is_inside (bounds_of target) y ≡ true → place (back y) ≡ y

-- ---- along the first dimension

-- a coordinate whose first number is raised or lowered, as far as 64 bits go
abbrev pub forth_along : ℤ → Coordinate → Coordinate
forth_along by [] = []
forth_along by (x ∷ c) = saturate_signed w64 (x +ℤ by) ∷ c

abbrev pub back_along : ℤ → Coordinate → Coordinate
back_along by [] = []
back_along by (x ∷ c) = saturate_signed w64 (x -ℤ by) ∷ c

-- where a cell comes from that was moved along
abbrev pub turned_back : ℤ → Coordinate → Coordinate
turned_back by [] = []
turned_back by (x ∷ c) = (x -ℤ by) ∷ c

abbrev pub step_of : Schema → Schema → ℤ
step_of left right = step_between left.dimensions right.dimensions

-- how far the right's cells are moved, and into what array
pub record CanConcat (step : ℤ) (left right target : Schema) : Type 0 where
  pub valid : IsValid target
  pub left_valid : IsValid left
  pub right_valid : IsValid right
  pub schema : target ≡ concat_schema left right
  pub follows : CanFollow left.dimensions right.dimensions
  pub steps : step ≡ step_between left.dimensions right.dimensions
