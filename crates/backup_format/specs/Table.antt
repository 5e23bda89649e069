-- The items of a backup in their order, each with its test over the items before it.
use Rattle.std.specs.Prelude.{ℕ, ◌+◌, ◌-◌, int_le, Bool, true, false, ◌&&◌, ◌==◌, nat_lt, nat_le, if◌then◌else◌}
use Rattle.std.specs.Prelude.{List, [], ◌∷◌, map, length, take, drop, Option, Some, None, Result, Ok, Err}
use Rattle.std.specs.List.{flat_map, list_all}
use Rattle.std.specs.Int.{w32, w64}
use Rattle.std.specs.Str.{bytes_eq}
use Rattle.sha2.specs.Sha256.{sha256}
use Rattle.cell_values.specs.declared.datum.Row.{Row}
use Rattle.cell_values.specs.declared.schema.Dimension.{Dimension}
use Rattle.cell_values.specs.declared.schema.Schema.{Schema}
use Rattle.array_geom.specs.declared.chunk.Chunk.{Chunk}
use Rattle.array_geom.specs.Geometry.{ChunkNumber, first_in, overlaps}
use Rattle.array_geom.specs.Link.{core_rows}
use Rattle.file_items.specs.Items.{◌>>=◌, Reading, number_at, bytes_at, item, repeat, counted}
use Rattle.file_items.specs.Pages.{positive_at}
use Rattle.file_items.specs.Table.{name_at, schema_at}
use Rattle.chunk_rle.specs.Chunks.{chunk_payload}
use Rattle.chunk_rle.specs.Frames.{frame_of}
use Rattle.chunk_map.specs.Table.{is_number, next_number}
use Rattle.version_catalog.specs.Table.{is_next_name, is_version}
use Rattle.backup_format.specs.Pieces.{Piece, PiecesVersion, PiecesArray, stored_payload}
use Rattle.backup_format.specs.Spelling.{text, spell_piece}

-- ---- chunk numbers

-- what is left of the number of the piece before, as directories know it, and the dimensions that are left
pub record Placing : Type 0 where
  pub before : Option ChunkNumber
  pub dims : List Dimension

-- whether the chunk has a place within the bounds of the first of some dimensions
abbrev pub has_place : List Dimension → ℕ → Bool
has_place [] n = false
has_place (d ∷ dims) n = int_le (first_in d n) d.hi

abbrev pub is_placed : Placing → Bool → ℕ → Bool
is_placed placing last n = is_number placing.before last n && has_place placing.dims n

abbrev pub next_placing : Placing → ℕ → Placing
next_placing placing n = record { before = next_number placing.before n; dims = drop 1 placing.dims }

unfoldable pub placed_number : Placing → ℕ → Reading ℕ
placed_number placing after bytes = item (number_at w64) (is_placed placing (after == 0)) bytes

-- rising numbers of chunks whose core holds a coordinate
abbrev pub numbers_at : List Dimension → Option ChunkNumber → Reading ChunkNumber
numbers_at dims before = repeat placed_number next_placing (length dims) (record { before = before; dims = dims })

-- ---- payloads

-- what is wrong with so many bytes behind it
abbrev pub outside : {A : Type 0} → ℕ → Result A ℕ → Result A ℕ
outside behind (Ok x) = Ok x
outside behind (Err left) = Err (left + behind)

-- So many bytes, which are read by themselves. Those that the end cuts are read as far as they go, and are wrong at the end else.
abbrev pub framed : {A : Type 0} → (List ℕ → Result A ℕ) → ℕ → Reading (List ℕ)
framed reads n bytes = outside (length (drop n bytes)) (reads (take n bytes))
    >>= λ read. if nat_lt (length bytes) n then Err 0 else Ok (take n bytes, drop n bytes)

abbrev pub chunk_in : Schema → ChunkNumber → List ℕ → Result Chunk ℕ
chunk_in schema k payload = chunk_payload (frame_of schema k) (record { items = k }) schema.attributes payload

-- the length of a payload, and the payload
unfoldable pub payload_at : Schema → ChunkNumber → Reading (List ℕ)
payload_at schema k bytes = do
  size ← positive_at bytes
  framed (chunk_in schema k) size.0 size.1

-- ---- pieces

unfoldable pub piece_after : Schema → Option ChunkNumber → Reading Piece
piece_after schema before bytes = do
  at ← numbers_at schema.dimensions before bytes
  payload ← payload_at schema at.0 at.1
  Ok (record { at = at.0; payload = payload.0 }, payload.1)

abbrev pub next_piece : Schema → Option ChunkNumber → ℕ → Reading Piece
next_piece schema before after = piece_after schema before

abbrev pub number_in : Option ChunkNumber → Piece → Option ChunkNumber
number_in before piece = Some piece.at

-- ---- the pieces of a version

abbrev pub chunk_or_none : ChunkNumber → Result Chunk ℕ → Chunk
chunk_or_none k (Ok chunk) = chunk
chunk_or_none k (Err left) = record { at = record { items = k }; positions = []; cells = [] }

abbrev pub chunk_of_piece : Schema → Piece → Chunk
chunk_of_piece schema piece = chunk_or_none piece.at (chunk_in schema piece.at piece.payload)

-- the rows that the cores of the pieces hold together
unfoldable pub rows_of : Schema → List Piece → List Row
rows_of schema pieces = core_rows schema.dimensions (overlaps schema.dimensions) (map (chunk_of_piece schema) pieces)

-- whether the payload is that of the chunk of some rows: its overlap holds its neighbours' cells
abbrev pub is_its_payload : Schema → List Row → Piece → Bool
is_its_payload schema rows piece = bytes_eq piece.payload (stored_payload schema rows piece.at)

abbrev pub fit_together : Schema → List Piece → Bool
fit_together schema pieces = list_all (is_its_payload schema (rows_of schema pieces)) pieces

-- how many bytes are left at the first payload that fails a test, with so many behind all pieces
unfoldable pub left_at : (Piece → Bool) → ℕ → List Piece → ℕ
left_at test behind [] = behind
left_at test behind (piece ∷ pieces) = if test piece then left_at test behind pieces
    else length piece.payload + (length (flat_map spell_piece pieces) + behind)

-- an item that is wrong at a place inside it
abbrev pub checked : {A : Type 0} → Reading A → (A → Bool) → (A → ℕ → ℕ) → Reading A
checked reads test place bytes = reads bytes >>= λ x. if test x.0 then Ok x else Err (place x.0 (length x.1))

abbrev pub wrong_piece : Schema → List Piece → ℕ → ℕ
wrong_piece schema pieces behind = left_at (is_its_payload schema (rows_of schema pieces)) behind pieces

unfoldable pub pieces_at : Schema → Reading (List Piece)
pieces_at schema = checked (counted w64 (λ count. true) (next_piece schema) number_in None) (fit_together schema) (wrong_piece schema)

-- ---- versions

unfoldable pub version_at : Schema → ℕ → ℕ → Reading PiecesVersion
version_at schema next last bytes = do
  number ← item (number_at w32) (is_version next last) bytes
  pieces ← pieces_at schema number.1
  Ok (record { number = number.0; pieces = pieces.0 }, pieces.1)

abbrev pub next_version : Schema → ℕ → ℕ → ℕ → Reading PiecesVersion
next_version schema next last after = version_at schema next last

abbrev pub last_in : ℕ → PiecesVersion → ℕ
last_in last version = version.number

-- the number of the next version, and the versions with their count before them
pub record Numbered : Type 0 where
  pub next : ℕ
  pub versions : List PiecesVersion

unfoldable pub numbered_at : Schema → Reading Numbered
numbered_at schema bytes = do
  next ← item (number_at w32) (λ next. nat_le 1 next && nat_le next 65536) bytes
  versions ← counted w32 (λ count. true) (next_version schema next.0) last_in 0 next.1
  Ok (record { next = next.0; versions = versions.0 }, versions.1)

-- ---- arrays

pub record Content : Type 0 where
  pub schema : Schema
  pub numbered : Numbered

unfoldable pub content_at : Reading Content
content_at bytes = do
  schema ← schema_at bytes
  numbered ← numbered_at schema.0 schema.1
  Ok (record { schema = schema.0; numbered = numbered.0 }, numbered.1)

unfoldable pub array_at : Option (List ℕ) → Reading PiecesArray
array_at before bytes = do
  name ← item name_at (is_next_name before) bytes
  content ← content_at name.1
  Ok (record { name = name.0; schema = content.0.schema; next = content.0.numbered.next; versions = content.0.numbered.versions }, content.1)

abbrev pub next_array : Option (List ℕ) → ℕ → Reading PiecesArray
next_array before after = array_at before

abbrev pub name_in : Option (List ℕ) → PiecesArray → Option (List ℕ)
name_in before array = Some array.name

unfoldable pub arrays_at : Reading (List PiecesArray)
arrays_at bytes = do
  begins ← item (bytes_at 8) (bytes_eq text) bytes
  counted w32 (λ count. nat_le count 1024) next_array name_in None begins.1

-- ---- the backup

-- the digest of the bytes before it
abbrev pub trailer_at : List ℕ → Reading (List ℕ)
trailer_at before = item (bytes_at 32) (bytes_eq (sha256 before))

-- THE PIECES OF A BACKUP, or how many bytes are left at the first wrong item
unfoldable pub backup_in : List ℕ → Result (List PiecesArray) ℕ
backup_in bytes = do
  arrays ← arrays_at bytes
  trailer ← trailer_at (take (length bytes - length arrays.1) bytes) arrays.1
  if length trailer.1 == 0 then Ok arrays.0 else Err (length trailer.1)
