-- Backups of databases.
use Rattle.std.specs.Prelude.{◌≡◌, ◌<◌, ◌^◌, ℕ, List, length, Some, Ok, slice_index}
use Rattle.std.specs.List.{AllByRecursion}
use Rattle.file_items.specs.Items.{wrong_at}
use Rattle.plan_changes.specs.Databases.{Database}
use Rattle.plan_changes.specs.Stored.{IsDatabase}
use Rattle.backup_format.specs.Pieces.{Piece, PiecesVersion, PiecesArray, pieces_of}
use Rattle.backup_format.specs.Spelling.{spell_arrays, signed}
use Rattle.backup_format.specs.Table.{backup_in}

-- THE BACKUP OF A DATABASE
unfoldable pub backup : Database → List ℕ
backup db = signed (spell_arrays (pieces_of db))

-- the bytes are no backup, and this is the offset of the first wrong item
abbrev pub IsNoBackupAt : ℕ → List ℕ → Type 0
IsNoBackupAt at bytes = wrong_at (length bytes) (backup_in bytes) ≡ Some at

-- what counts and lengths of a backup can say
abbrev pub IsCountedVersion : PiecesVersion → Type 0
IsCountedVersion version = (length version.pieces < 2 ^ 64) × AllByRecursion (λ (piece : Piece). length piece.payload < 2 ^ 64) version.pieces

abbrev pub IsCountedArray : PiecesArray → Type 0
IsCountedArray array = AllByRecursion IsCountedVersion array.versions

abbrev pub IsCounted : Database → Type 0
IsCounted db = AllByRecursion IsCountedArray (pieces_of db)

-- the backup of a database is read as its pieces
abbrev pub BackupsAreRead : Type 0
BackupsAreRead = (db : Database) → IsDatabase db → IsCounted db → backup_in (backup db) ≡ Ok (pieces_of db)

-- and what is read is the backup of a database
abbrev pub ReadsAreBackups : Type 0
ReadsAreBackups = (bytes : List ℕ) (arrays : List PiecesArray) → ((i : ℕ) → slice_index bytes i < 256) → backup_in bytes ≡ Ok arrays
    → (db : Database) × IsDatabase db × IsCounted db × (bytes ≡ backup db) × (arrays ≡ pieces_of db)
