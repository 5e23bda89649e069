-- The bytes of a backup.
use Rattle.std.specs.Prelude.{ℕ, List, ◌++◌, length, codes}
use Rattle.std.specs.List.{flat_map}
use Rattle.std.specs.Int.{w32, w64, to_le_bytes}
use Rattle.cell_values.specs.declared.schema.Schema.{Schema}
use Rattle.sha2.specs.Sha256.{sha256}
use Rattle.file_items.specs.Items.{spell_counted}
use Rattle.file_items.specs.Spelling.{spell_name, spell_schema}
use Rattle.backup_format.specs.Pieces.{Piece, PiecesVersion, PiecesArray}

-- the text with which a backup begins
abbrev pub text : List ℕ
text = codes "AFLDUMP1"

-- what stands before the pieces of a version, the versions of an array, and the arrays
abbrev pub before_payload : List ℕ → ℕ → List ℕ
before_payload at size = flat_map (to_le_bytes w64) at ++ to_le_bytes w64 size

abbrev pub before_pieces : ℕ → ℕ → List ℕ
before_pieces number pieces = to_le_bytes w32 number ++ to_le_bytes w64 pieces

abbrev pub before_versions : List ℕ → Schema → ℕ → ℕ → List ℕ
before_versions name schema next versions = spell_name name ++ (spell_schema schema ++ (to_le_bytes w32 next ++ to_le_bytes w32 versions))

abbrev pub before_arrays : ℕ → List ℕ
before_arrays arrays = text ++ to_le_bytes w32 arrays

-- the chunk's number, and its payload with its length before it
unfoldable pub spell_piece : Piece → List ℕ
spell_piece piece = flat_map (to_le_bytes w64) piece.at ++ (to_le_bytes w64 (length piece.payload) ++ piece.payload)

-- the number, and the pieces with their count before them
unfoldable pub spell_version : PiecesVersion → List ℕ
spell_version version = to_le_bytes w32 version.number ++ spell_counted w64 spell_piece version.pieces

-- the name, the schema, the number of the next version, and the versions with their count before them
unfoldable pub spell_array : PiecesArray → List ℕ
spell_array array = spell_name array.name
    ++ (spell_schema array.schema ++ (to_le_bytes w32 array.next ++ spell_counted w32 spell_version array.versions))

-- the text, and the arrays with their count before them
unfoldable pub spell_arrays : List PiecesArray → List ℕ
spell_arrays arrays = text ++ spell_counted w32 spell_array arrays

-- bytes, and their digest behind them
abbrev pub signed : List ℕ → List ℕ
signed bytes = bytes ++ sha256 bytes
