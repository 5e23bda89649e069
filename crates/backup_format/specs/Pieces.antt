-- What the bytes of a backup hold: arrays by name, their versions, and of each version the payloads of its chunks.
use Rattle.std.specs.Prelude.{ℕ, List, [], ◌∷◌, map}
use Rattle.std.specs.declared.cmp.Ordering.{Ordering}
use Rattle.std.specs.declared.cmp.Ordering.TheVariants.{Less, Equal, Greater}
use Rattle.cell_values.specs.declared.datum.Row.{Row}
use Rattle.cell_values.specs.declared.schema.Dimension.{Dimension}
use Rattle.cell_values.specs.declared.schema.Schema.{Schema}
use Rattle.array_rows.specs.Boxes.{within}
use Rattle.array_geom.specs.declared.chunk.Chunk.{Chunk}
use Rattle.array_geom.specs.Geometry.{ChunkNumber, chunk_of, frame, overlaps, position_of}
use Rattle.array_geom.specs.Link.{number_order}
use Rattle.chunk_rle.specs.Chunks.{spelling}
use Rattle.plan_changes.specs.Databases.{Database, Stored, Version}

-- a chunk's number, and its payload as it is stored
pub record Piece : Type 0 where
  pub at : ChunkNumber
  pub payload : List ℕ

pub record PiecesVersion : Type 0 where
  pub number : ℕ
  pub pieces : List Piece

pub record PiecesArray : Type 0 where
  pub name : List ℕ
  pub schema : Schema
  pub next : ℕ
  pub versions : List PiecesVersion

-- ---- the pieces of rows

-- a number among rising ones, once
abbrev pub with_number_by : Ordering → ChunkNumber → ChunkNumber → List ChunkNumber → List ChunkNumber → List ChunkNumber
with_number_by Less k n ns later = k ∷ n ∷ ns
with_number_by Equal k n ns later = n ∷ ns
with_number_by Greater k n ns later = n ∷ later

abbrev pub with_number : ChunkNumber → List ChunkNumber → List ChunkNumber
with_number k [] = k ∷ []
with_number k (n ∷ ns) = with_number_by (number_order k n) k n ns (with_number k ns)

-- the rising numbers of the chunks whose core holds a row
abbrev pub rising_numbers : List Dimension → List Row → List ChunkNumber
rising_numbers dims [] = []
rising_numbers dims (row ∷ rows) = with_number (chunk_of dims row.at.items) (rising_numbers dims rows)

-- the chunk of this number as it is stored: the rows in its frame, whose margins are the overlaps
abbrev pub stored_chunk : Schema → List Row → ChunkNumber → Chunk
stored_chunk schema rows k =
    let dims = schema.dimensions in
    let part = within (frame dims (overlaps dims) k) rows in
    record { at = record { items = k }; positions = map (λ row. position_of dims (overlaps dims) k row.at.items) part; cells = map (λ row. row.cell) part }

-- the one spelling of that chunk
abbrev pub stored_payload : Schema → List Row → ChunkNumber → List ℕ
stored_payload schema rows k = spelling schema.attributes (stored_chunk schema rows k)

abbrev pub piece_of : Schema → List Row → ChunkNumber → Piece
piece_of schema rows k = record { at = k; payload = stored_payload schema rows k }

-- ---- the pieces of a database

abbrev pub version_of : Schema → Version → PiecesVersion
version_of schema version = record { number = version.number; pieces = map (piece_of schema version.rows) (rising_numbers schema.dimensions version.rows) }

abbrev pub array_of : Stored → PiecesArray
array_of array = record { name = array.name; schema = array.schema; next = array.next; versions = map (version_of array.schema) array.versions }

abbrev pub pieces_of : Database → List PiecesArray
pieces_of db = map array_of db
