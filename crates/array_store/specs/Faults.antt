-- Why a chunk isn't read under a pin.
use Rattle.std.specs.Prelude.{◌≡◌, ℕ, slice_index, Option, IsSomeAnd, IsTrue}
use Rattle.chunk_map.specs.declared.directory.DirEntry.{DirEntry}
use Rattle.store_ledger.specs.Ledger.{LedgerState, is_fault, is_noted}
use Rattle.prepared_commits.specs.ReadFault.{ReadFault}
use Rattle.prepared_commits.specs.ReadFault.TheVariants.{Disk, Damaged, Memory}

-- the disk failed, and a note of it stands under the session's pin; the payload begins at this page, and isn't whole; or memory was short
abbrev pub IsUnreadUnder : LedgerState → ℕ → Option DirEntry → ReadFault → Type 0
IsUnreadUnder ledger session payload Disk = IsTrue (is_noted is_fault ledger session)
IsUnreadUnder ledger session payload (Damaged page) = IsSomeAnd payload (λ entry. page ≡ slice_index entry.pages 0)
IsUnreadUnder ledger session payload Memory = Unit {0}
