-- Laws of backups.
use Rattle.std.specs.Prelude.{◌≡◌, ◌<◌, ◌^◌, ℕ, true, ◌&&◌, ◌==◌, nat_lt, nat_le, List, ◌++◌, length, Option, None, Ok, slice_index}
use Rattle.std.specs.List.{flat_map}
use Rattle.cell_values.specs.declared.schema.Schema.{Schema}
use Rattle.array_geom.specs.declared.chunk.Chunk.{Chunk}
use Rattle.array_geom.specs.Geometry.{ChunkNumber}
use Rattle.file_items.specs.Items.{Are, AreCounted}
use Rattle.file_items.specs.Naming.{IsName}
use Rattle.file_items.specs.Spelling.{IsSpelled}
use Rattle.version_catalog.specs.Table.{is_next_name, is_version}
use Rattle.backup_format.specs.Pieces.{Piece, PiecesVersion, PiecesArray}
use Rattle.backup_format.specs.Spelling.{before_payload, before_pieces, before_versions, before_arrays, spell_piece, spell_version, spell_array, spell_arrays, signed}
use Rattle.backup_format.specs.Table.{Placing, is_placed, next_placing, number_in, chunk_in, fit_together, last_in, name_in, backup_in}

-- ---- parts

abbrev pub PiecesHaveParts : Type 0
PiecesHaveParts = (piece : Piece) → spell_piece piece ≡ before_payload piece.at (length piece.payload) ++ piece.payload

abbrev pub VersionsHaveParts : Type 0
VersionsHaveParts = (version : PiecesVersion) → spell_version version ≡ before_pieces version.number (length version.pieces) ++ flat_map spell_piece version.pieces

abbrev pub ArraysHaveParts : Type 0
ArraysHaveParts = (array : PiecesArray)
    → spell_array array ≡ before_versions array.name array.schema array.next (length array.versions) ++ flat_map spell_version array.versions

abbrev pub BackupsHaveParts : Type 0
BackupsHaveParts = (arrays : List PiecesArray) → spell_arrays arrays ≡ before_arrays (length arrays) ++ flat_map spell_array arrays

-- ---- which pieces have a backup

abbrev pub AreBytes : List ℕ → Type 0
AreBytes bytes = (i : ℕ) → slice_index bytes i < 256

-- bytes that a chunk of this number has
pub record IsPayload (schema : Schema) (k : ChunkNumber) (payload : List ℕ) : Type 0 where
  pub some : nat_lt 0 (length payload) ≡ true
  pub few : length payload < 2 ^ 64
  pub small : AreBytes payload
  pub chunk : Chunk
  pub read : chunk_in schema k payload ≡ Ok chunk

abbrev pub IsPlaced : Placing → ℕ → ℕ → Type 0
IsPlaced placing after n = (n < 2 ^ 64) × (is_placed placing (after == 0) n ≡ true)

-- the number is behind that of the piece before, and the core of its chunk holds a coordinate
pub record IsNextPiece (schema : Schema) (before : Option ChunkNumber) (after : ℕ) (piece : Piece) : Type 0 where
  pub at : Are IsPlaced next_placing (length schema.dimensions) (record { before = before; dims = schema.dimensions }) piece.at
  pub payload : IsPayload schema piece.at piece.payload

-- pieces whose overlaps hold their neighbours' cells
pub record IsNextVersion (schema : Schema) (next last after : ℕ) (version : PiecesVersion) : Type 0 where
  pub number : is_version next last version.number ≡ true
  pub pieces : AreCounted (2 ^ 64) (λ count. true) (IsNextPiece schema) number_in None version.pieces
  pub fit : fit_together schema version.pieces ≡ true

pub record IsNextArray (before : Option (List ℕ)) (after : ℕ) (array : PiecesArray) : Type 0 where
  pub name : IsName array.name
  pub behind : is_next_name before array.name ≡ true
  pub schema : IsSpelled array.schema
  pub next : (nat_le 1 array.next && nat_le array.next 65536) ≡ true
  pub versions : AreCounted (2 ^ 32) (λ count. true) (IsNextVersion array.schema array.next) last_in 0 array.versions

abbrev pub AreArrays : List PiecesArray → Type 0
AreArrays arrays = AreCounted (2 ^ 32) (λ count. nat_le count 1024) IsNextArray name_in None arrays

abbrev pub ReadIsSpelled : Type 0
ReadIsSpelled = (bytes : List ℕ) (arrays : List PiecesArray) → AreBytes bytes → backup_in bytes ≡ Ok arrays → AreArrays arrays × (bytes ≡ signed (spell_arrays arrays))

abbrev pub SpelledIsRead : Type 0
SpelledIsRead = (arrays : List PiecesArray) → AreArrays arrays → backup_in (signed (spell_arrays arrays)) ≡ Ok arrays
