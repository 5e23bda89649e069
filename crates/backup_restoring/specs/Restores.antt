-- What restoring a backup answers, and what it leaves of the source and the disk.
use Rattle.std.specs.Prelude.{◌≡◌, ◌≢◌, ℕ, ◌+◌, ◌-◌, ◌*◌, ◌^◌, min, nat_le, if◌then◌else◌, List, length, IsTrue, Some, IfSome, Result, Ok, Err, sum_by}
use Rattle.std.specs.Io.KnownBytes.{IsAtEnd}
use Rattle.afl_outside.specs.Counts.{Rose}
use Rattle.afl_outside.specs.Disk.{DiskState, Moment, Only}
use Rattle.afl_outside.specs.Source.{SourceState, Gives}
use Rattle.file_items.specs.Pages.{pages_needed}
use Rattle.file_items.specs.Spelling.{spell_name, spell_schema}
use Rattle.page_chain.specs.Pages.{page_size, pages_for}
use Rattle.page_chain.specs.Chains.{content_size}
use Rattle.plan_changes.specs.Databases.{Database}
use Rattle.plan_changes.specs.Stored.{IsDatabase}
use Rattle.file_meaning.specs.Standing.{Stands}
use Rattle.backup_format.specs.Pieces.{Piece, PiecesVersion, PiecesArray}
use Rattle.backup_format.specs.Table.{backup_in}
use Rattle.backup_format.specs.Backups.{backup}
use Rattle.backup_restoring.specs.declared.fault.RestoreFault.{RestoreFault}
use Rattle.backup_restoring.specs.declared.fault.RestoreFault.TheVariants as faults

-- ---- how many pages a database takes

abbrev pub payload_pages : Piece → ℕ
payload_pages piece = pages_needed (length piece.payload)

-- the bytes of a directory: of each entry the chunk's numbers, the payload's length, its birth, and its pages with their count
abbrev pub entry_length : Piece → ℕ
entry_length piece = 8 * length piece.at + 20 + 4 * payload_pages piece

abbrev pub directory_length : PiecesVersion → ℕ
directory_length version = 8 + sum_by entry_length version.pieces

abbrev pub directory_pages : PiecesVersion → ℕ
directory_pages version = pages_needed (directory_length version)

-- the bytes of a catalogue: of each version its number, its directory's length, and the directory's pages with their count
abbrev pub version_length : PiecesVersion → ℕ
version_length version = 16 + 4 * directory_pages version

abbrev pub array_length : PiecesArray → ℕ
array_length array = length (spell_name array.name) + length (spell_schema array.schema) + 8 + sum_by version_length array.versions

abbrev pub catalogue_length : List PiecesArray → ℕ
catalogue_length arrays = 4 + sum_by array_length arrays

-- the pages of a version: of its payloads and of its directory
abbrev pub version_pages : PiecesVersion → ℕ
version_pages version = sum_by payload_pages version.pieces + directory_pages version

abbrev pub array_pages : PiecesArray → ℕ
array_pages array = sum_by version_pages array.versions

-- the pages of all versions, of the catalogue's chain, and a log page
abbrev pub restore_pages : List PiecesArray → ℕ
restore_pages arrays = sum_by array_pages arrays + pages_for (content_size page_size) (catalogue_length arrays) + 1

-- what page 0, the two pages of a new file and one in reserve leave
abbrev pub free_pages : ℕ → ℕ
free_pages pages = pages - 4

-- ---- what is refused

abbrev pub restored_if : ℕ → ℕ → Result (Unit {0}) RestoreFault
restored_if needed free = if nat_le needed free then Ok tt else Err (faults.Full (min needed (2 ^ 32 - 1)) free)

abbrev pub restored_from : ℕ → ℕ → Result (List PiecesArray) ℕ → Result (Unit {0}) RestoreFault
restored_from pages size (Err left) = Err (faults.NotBackup (size - left))
restored_from pages size (Ok arrays) = restored_if (restore_pages arrays) (free_pages pages)

-- WHAT RESTORING OF SOME BYTES ANSWERS over an empty disk, where neither the disk nor the source fails and there is memory
unfoldable pub restored_by : ℕ → List ℕ → Result (Unit {0}) RestoreFault
restored_by pages bytes = restored_from pages (length bytes) (backup_in bytes)

-- the answer is that of the rules, where it tells of the bytes
abbrev pub IsTested : ℕ → List ℕ → Result (Unit {0}) RestoreFault → Type 0
IsTested pages bytes (Ok u) = restored_by pages bytes ≡ Ok tt
IsTested pages bytes (Err faults.Source) = Unit {0}
IsTested pages bytes (Err faults.Disk) = Unit {0}
IsTested pages bytes (Err (faults.NotEmpty count)) = Unit {0}
IsTested pages bytes (Err (faults.NotBackup at)) = restored_by pages bytes ≡ Err (faults.NotBackup at)
IsTested pages bytes (Err (faults.Full needed free)) = restored_by pages bytes ≡ Err (faults.Full needed free)
IsTested pages bytes (Err (faults.NotDatabase page)) = restored_by pages bytes ≡ Ok tt
IsTested pages bytes (Err faults.Memory) = Unit {0}

-- only an empty file is restored
abbrev pub IsMeasured : List ℕ → Result (Unit {0}) RestoreFault → Type 0
IsMeasured file (Ok u) = length file ≡ 0
IsMeasured file (Err faults.Source) = length file ≡ 0
IsMeasured file (Err faults.Disk) = Unit {0}
IsMeasured file (Err (faults.NotEmpty count)) = (count ≡ length file) × (count ≢ 0)
IsMeasured file (Err (faults.NotBackup at)) = length file ≡ 0
IsMeasured file (Err (faults.Full needed free)) = length file ≡ 0
IsMeasured file (Err (faults.NotDatabase page)) = length file ≡ 0
IsMeasured file (Err faults.Memory) = Unit {0}

-- ---- the source

-- a source has given some bytes
pub record HasGiven (old new : SourceState) : Type 0 where
  pub bytes : List ℕ
  pub gives : Gives old new bytes

-- and was read to its end
pub record HasGivenAll (old new : SourceState) : Type 0 where
  pub bytes : List ℕ
  pub gives : Gives old new bytes
  pub ends : IsAtEnd new.left

-- How far the source was read: to its end, but where an earlier refusal came
abbrev pub HasRead : SourceState → SourceState → Result (Unit {0}) RestoreFault → Type 0
HasRead old new (Ok u) = HasGivenAll old new
HasRead old new (Err faults.Source) = HasGiven old new
HasRead old new (Err faults.Disk) = HasGiven old new
HasRead old new (Err (faults.NotEmpty count)) = HasGiven old new
HasRead old new (Err (faults.NotBackup at)) = HasGivenAll old new
HasRead old new (Err (faults.Full needed free)) = HasGivenAll old new
HasRead old new (Err (faults.NotDatabase page)) = HasGivenAll old new
HasRead old new (Err faults.Memory) = HasGiven old new

-- ---- the disk

-- what holds where a refusal came before the first write
abbrev pub WhereUnwritten : RestoreFault → Type 0 → Type 0
WhereUnwritten faults.Source kept = kept
WhereUnwritten faults.Disk kept = Unit {0}
WhereUnwritten (faults.NotEmpty count) kept = kept
WhereUnwritten (faults.NotBackup at) kept = kept
WhereUnwritten (faults.Full needed free) kept = kept
WhereUnwritten (faults.NotDatabase page) kept = Unit {0}
WhereUnwritten faults.Memory kept = Unit {0}

-- a disk holds the file of a database, and a crash leaves nothing else
pub record IsImageOf (db : Database) (at : Moment) : Type 0 where
  pub file : List ℕ
  pub stands : Stands file db
  pub reads : at.state.seen ≡ Some file
  pub leaves : Only file at.may_leave

-- A RESTORED DATABASE: the source has given its backup and no byte more, and the disk holds it
pub record IsRestored (old new : SourceState) (at : Moment) : Type 0 where
  pub db : Database
  pub database : IsDatabase db
  pub gives : Gives old new (backup db)
  pub ends : IsAtEnd new.left
  pub image : IsImageOf db at

-- Faults of the source or the disk come only where its count rose. An honest disk that tells its bytes is read back.
abbrev pub HasCause : RestoreFault → SourceState → SourceState → DiskState → DiskState → Type 0
HasCause faults.Source old new before after = Rose old.faults new.faults
HasCause faults.Disk old new before after = Rose before.faults after.faults
HasCause (faults.NotEmpty count) old new before after = Unit {0}
HasCause (faults.NotBackup at) old new before after = Unit {0}
HasCause (faults.Full needed free) old new before after = Unit {0}
HasCause (faults.NotDatabase page) old new before after = IsTrue before.honest → IfSome before.seen (λ _. ⊥)
HasCause faults.Memory old new before after = Unit {0}
