-- Chunks of an array's places. In each dimension the places from the low bound on are cut into chunks of one length. A chunk's
-- core is what the bounds leave of it, its frame is all of it with a margin on both sides, whatever the bounds are.
use Rattle.std.specs.Prelude.{◌≡◌, ℕ, ◌+◌, ◌-◌, ◌*◌, ◌/◌, ◌%◌, ◌≤◌, ◌^◌, ℤ, pos, ◌+ℤ◌, ◌-ℤ◌, int_le}
use Rattle.std.specs.Prelude.{unsigned_abs, Bool, true, false, ◌&&◌, List, [], ◌∷◌, map, length, IsTrue}
use Rattle.std.specs.Int.{int_min}
use Rattle.array_rows.specs.Bounds.{Bounds}
use Rattle.array_rows.specs.Dimension.{Dimension}
use Rattle.array_rows.specs.Schema.{Schema}
use Rattle.array_rows.specs.Schemas.{IsValid}
use Rattle.array_rows.specs.Rows.{Coordinate}
use Rattle.array_rows.specs.Boxes.{by_pairs, corners, meet}
use Rattle.array_geom.specs.Areas.{holds_some}

-- a chunk's number: for each dimension how many chunks come before it
abbrev pub ChunkNumber : Type 0
ChunkNumber = List ℕ

-- the number of the chunk whose core has the coordinate
abbrev pub chunk_of : List Dimension → Coordinate → ChunkNumber
chunk_of dims c = by_pairs (λ d x. unsigned_abs (x -ℤ d.lo) / d.chunk) dims c

-- the first place of a chunk in a dimension, and the last one, which may lie out of bounds
abbrev pub first_in : Dimension → ℕ → ℤ
first_in d k = d.lo +ℤ pos (k * d.chunk)

abbrev pub last_in : Dimension → ℕ → ℤ
last_in d k = d.lo +ℤ pos (k * d.chunk + (d.chunk - 1))

-- the coordinates that belong to a chunk
abbrev pub core : List Dimension → ChunkNumber → Bounds
core dims k = corners (by_pairs first_in dims k) (by_pairs (λ d n. int_min d.hi (last_in d n)) dims k)

-- whether a chunk's core holds a coordinate
abbrev pub has_core : List Dimension → ChunkNumber → Bool
has_core [] [] = true
has_core (d ∷ dims) (k ∷ ks) = int_le (first_in d k) d.hi && has_core dims ks
has_core _ _ = false

-- the chunk without regard to the bounds, with a margin on each side
abbrev pub frame_low : List Dimension → List ℕ → ChunkNumber → List ℤ
frame_low dims margins k = by_pairs (λ x m. x -ℤ pos m) (by_pairs first_in dims k) margins

abbrev pub frame : List Dimension → List ℕ → ChunkNumber → Bounds
frame dims margins k = corners (frame_low dims margins k) (by_pairs (λ x m. x +ℤ pos m) (by_pairs last_in dims k) margins)

-- how long a frame is in each dimension
abbrev pub frame_lengths : List Dimension → List ℕ → List ℕ
frame_lengths dims margins = by_pairs (λ d m. d.chunk + 2 * m) dims margins

-- how many coordinates a box of these lengths has
abbrev pub volume : List ℕ → ℕ
volume [] = 1
volume (n ∷ ns) = n * volume ns

-- the coordinate at a place, from 0 and in row-major order, of a box with these lowest numbers and lengths
abbrev pub coordinate_in : List ℤ → List ℕ → ℕ → Coordinate
coordinate_in lo [] p = []
coordinate_in [] (n ∷ ns) p = []
coordinate_in (l ∷ lo) (n ∷ ns) p = (l +ℤ pos (p / volume ns)) ∷ coordinate_in lo ns (p % volume ns)

-- the place of a coordinate
abbrev pub position_in : List ℤ → List ℕ → Coordinate → ℕ
position_in lo [] c = 0
position_in [] (n ∷ ns) c = 0
position_in (l ∷ lo) (n ∷ ns) [] = 0
position_in (l ∷ lo) (n ∷ ns) (x ∷ c) = unsigned_abs (x -ℤ l) * volume ns + position_in lo ns c

-- the same in the frame of a chunk
abbrev pub coordinate_at : List Dimension → List ℕ → ChunkNumber → ℕ → Coordinate
coordinate_at dims margins k p = coordinate_in (frame_low dims margins k) (frame_lengths dims margins) p

abbrev pub position_of : List Dimension → List ℕ → ChunkNumber → Coordinate → ℕ
position_of dims margins k c = position_in (frame_low dims margins k) (frame_lengths dims margins) c

-- a chunk that has places: it belongs to an array, and its frame has at most 2^48 places
pub record HasFrame (schema : Schema) (margins : List ℕ) (k : ChunkNumber) : Type 0 where
  pub valid : IsValid schema
  pub core : IsTrue (has_core schema.dimensions k)
  pub each : length margins ≡ length schema.dimensions
  pub places : volume (frame_lengths schema.dimensions margins) ≤ 2 ^ 48

-- whether the core of a chunk has a coordinate that an area has
abbrev pub core_meets : List Dimension → Bounds → ChunkNumber → Bool
core_meets dims area k = holds_some (meet (core dims k) area)

-- the margins with which chunks are stored
abbrev pub overlaps : List Dimension → List ℕ
overlaps dims = map (λ d. d.overlap) dims
