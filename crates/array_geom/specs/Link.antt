-- A chunked array is an array: each chunk is the restriction of the array's rows to the chunk's frame, and there is a chunk
-- exactly where a core holds a cell.
use Rattle.std.specs.Prelude.{◌≡◌, ℕ, ◌<◌, ◌≤◌, ◌^◌, ℤ, Bool, true, false, List, [], ◌∷◌, length, map, Some, None, Result, Ok, Err, ⊤}
use Rattle.std.specs.List.{AllByRecursion, list_any}
use Rattle.std.specs.Ordering.{nat_cmp, is_eq}
use Rattle.std.specs.declared.cmp.Ordering.{Ordering}
use Rattle.std.specs.declared.cmp.Ordering.TheVariants.{Less}
use Rattle.std.specs.Cmp.Lexicographic.{slice_cmp}
use Rattle.array_rows.specs.Broken.{Broken}
use Rattle.array_rows.specs.Cell.{Cell}
use Rattle.array_rows.specs.Row.{Row}
use Rattle.array_rows.specs.Dimension.{Dimension}
use Rattle.array_rows.specs.Schema.{Schema}
use Rattle.array_rows.specs.Schemas.{IsValid}
use Rattle.array_rows.specs.Arrays.{AreRowsOf, Meant}
use Rattle.array_rows.specs.Boxes.{by_pairs, within}
use Rattle.array_rows.specs.Rows.{placed, put_all}
use Rattle.array_geom.specs.declared.chunk.Chunk.{Chunk}
use Rattle.array_geom.specs.declared.chunk.ChunkedArray.{ChunkedArray}
use Rattle.array_geom.specs.Geometry.{ChunkNumber, coordinate_in, core, frame, frame_low, frame_lengths, volume}

-- ---- a chunk

-- cells at places of a box, as rows
abbrev pub rows_in : List ℤ → List ℕ → List ℕ → List Cell → List Row
rows_in low lengths positions cells = by_pairs (λ p cell. placed (coordinate_in low lengths p) cell) positions cells

abbrev pub chunk_rows : List Dimension → List ℕ → Chunk → List Row
chunk_rows dims margins chunk = rows_in (frame_low dims margins chunk.at.items) (frame_lengths dims margins) chunk.positions chunk.cells

-- the chunk holds exactly the array's cells in its frame: those of its core, and copies of its neighbours' cells
pub record IsPart (dims : List Dimension) (margins : List ℕ) (rows : List Row) (chunk : Chunk) : Type 0 where
  pub each : length chunk.cells ≡ length chunk.positions
  pub in_frame : AllByRecursion (λ p. p < volume (frame_lengths dims margins)) chunk.positions
  pub cells : chunk_rows dims margins chunk ≡ within (frame dims margins chunk.at.items) rows

-- the core cells of the chunks, put together
abbrev pub core_rows : List Dimension → List ℕ → List Chunk → List Row
core_rows dims margins [] = []
core_rows dims margins (chunk ∷ chunks) = put_all (within (core dims chunk.at.items) (chunk_rows dims margins chunk)) (core_rows dims margins chunks)

-- ---- which chunks there are

-- the order of chunk numbers: the first number decides, and then the rest
abbrev pub number_order : ChunkNumber → ChunkNumber → Ordering
number_order = slice_cmp nat_cmp

-- each number comes before all later ones
abbrev pub NumbersRise : List ChunkNumber → Type 0
NumbersRise [] = ⊤
NumbersRise (k ∷ ks) = AllByRecursion (λ later. number_order k later ≡ Less) ks × NumbersRise ks

abbrev pub numbers : List Chunk → List ChunkNumber
numbers chunks = map (λ chunk. chunk.at.items) chunks

abbrev pub is_listed : ChunkNumber → List ChunkNumber → Bool
is_listed k ks = list_any (λ n. is_eq (number_order n k)) ks

abbrev pub is_not_empty : List Row → Bool
is_not_empty [] = false
is_not_empty (row ∷ rows) = true

-- whether the core of a chunk holds a cell
abbrev pub has_cell : List Dimension → List Row → ChunkNumber → Bool
has_cell dims rows k = is_not_empty (within (core dims k) rows)

-- the chunks stand by their rising numbers, one for each core that holds a cell, and each is its part of the rows
pub record AreChunksOf (dims : List Dimension) (margins : List ℕ) (rows : List Row) (chunks : List Chunk) : Type 0 where
  pub in_order : NumbersRise (numbers chunks)
  pub sized : AllByRecursion (λ k. length k ≡ length dims) (numbers chunks)
  pub listed : (k : ChunkNumber) → length k ≡ length dims → is_listed k (numbers chunks) ≡ has_cell dims rows k
  pub parts : AllByRecursion (IsPart dims margins rows) chunks

-- ---- a chunked array

-- the rows of a schema in chunks, with a margin for each dimension and at most 2^48 places in a frame
pub record HoldsRows (schema : Schema) (array : ChunkedArray) (rows : List Row) : Type 0 where
  pub whole : array.broken ≡ None
  pub rows_of : AreRowsOf schema rows
  pub each : length array.margins.items ≡ length schema.dimensions
  pub places : volume (frame_lengths schema.dimensions array.margins.items) ≤ 2 ^ 48
  pub chunks : AreChunksOf schema.dimensions array.margins.items rows array.chunks

abbrev pub HoldsResult : Schema → ChunkedArray → Result (List Row) Broken → Type 0
HoldsResult schema array (Ok rows) = HoldsRows schema array rows
HoldsResult schema array (Err broken) = array.broken ≡ Some broken

-- a valid schema, with a margin for each of its dimensions, and the rows in chunks or what broke the array
pub record Is (array : ChunkedArray) (meant : Meant) : Type 0 where
  pub schema : array.schema ≡ meant.schema
  pub valid : IsValid meant.schema
  pub margins : length array.margins.items ≡ length meant.schema.dimensions
  pub cells : HoldsResult meant.schema array meant.rows
