-- Where the pieces of a backup lie in its bytes.
use Rattle.std.specs.Prelude.{◌≡◌, false, ℕ, ◌+◌, ◌-◌, List, [], ◌∷◌, ◌++◌, map, length, take, drop, Option, None, Some}
use Rattle.std.specs.List.{flat_map}
use Rattle.backup_format.specs.Pieces.{Piece, PiecesVersion, PiecesArray}
use Rattle.cell_values.specs.declared.schema.Schema.{Schema}
use Rattle.file_items.specs.declared.bytes.stop.Stop.{Stop}
use Rattle.file_items.specs.declared.bytes.stop.Stop.TheVariants as stops
use Rattle.std.specs.Str.{bytes_eq}
use Rattle.file_items.specs.Items.{Reading, bytes_at, item}
use Rattle.backup_format.specs.Spelling.{spell_piece, text}
use Rattle.backup_format.specs.Table.{Content, fit_together, wrong_piece}
use Rattle.backup_format.specs.declared.pieces.PieceAt.{PieceAt}
use Rattle.backup_format.specs.declared.versions.VersionPiecesAt.{VersionPiecesAt}
use Rattle.backup_format.specs.declared.arrays.ArrayAt.{ArrayAt}

-- so many bytes, of which the first one has so many behind it, itself counted
abbrev pub slice_at : List ℕ → ℕ → ℕ → List ℕ
slice_at whole left size = take size (drop (length whole - left) whole)

abbrev pub piece_in : List ℕ → PieceAt → Piece
piece_in whole piece = record { at = piece.at.items; payload = slice_at whole piece.left piece.size }

abbrev pub pieces_in : List ℕ → List PieceAt → List Piece
pieces_in whole pieces = map (piece_in whole) pieces

abbrev pub version_in : List ℕ → VersionPiecesAt → PiecesVersion
version_in whole version = record { number = version.number; pieces = pieces_in whole version.pieces }

abbrev pub array_in : List ℕ → ArrayAt → PiecesArray
array_in whole array = record { name = array.name; schema = array.schema; next = array.next; versions = map (version_in whole) array.versions }

abbrev pub arrays_in : List ℕ → List ArrayAt → List PiecesArray
arrays_in whole arrays = map (array_in whole) arrays

-- some bytes end with these
abbrev pub EndsWith : List ℕ → List ℕ → Type 0
EndsWith whole rest = (front : List ℕ) × (whole ≡ front ++ rest)

-- each piece tells how many bytes are left where its payload begins: its own, those of the later pieces, and those behind them
unfoldable pub AreLeft : List ℕ → List PieceAt → ℕ → Type 0
AreLeft whole [] behind = Unit {0}
AreLeft whole (piece ∷ pieces) behind =
    (piece.left ≡ length (slice_at whole piece.left piece.size) + (length (flat_map spell_piece (pieces_in whole pieces)) + behind)) × AreLeft whole pieces behind

-- the first wrong overlap of pieces, with so many bytes behind them
abbrev pub IsUnfit : Schema → List Piece → ℕ → Stop → Type 0
IsUnfit schema pieces behind stops.Memory = Unit {0}
IsUnfit schema pieces behind (stops.Left left) = (fit_together schema pieces ≡ false) × (left ≡ wrong_piece schema pieces behind)

-- the content of an array, by its parts
abbrev pub content_in : List ℕ → Schema → ℕ → List VersionPiecesAt → Content
content_in whole schema next versions = record { schema = schema; numbered = record { next = next; versions = map (version_in whole) versions } }

abbrev pub last_name : List ArrayAt → Option (List ℕ)
last_name [] = None
last_name (array ∷ []) = Some array.name
last_name (array ∷ next ∷ arrays) = last_name (next ∷ arrays)

-- the text with which a backup begins
abbrev pub text_at : Reading (List ℕ)
text_at = item (bytes_at 8) (bytes_eq text)
