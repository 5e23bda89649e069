-- What each step of restoring answers and leaves.
use Rattle.std.specs.Prelude.{◌≡◌, ℕ, ◌-◌, ◌<◌, ◌≤◌, ◌^◌, min, List, Result, Ok, Err}
use Rattle.std.specs.Io.KnownBytes.{IsAtEnd}
use Rattle.afl_outside.specs.Counts.{Rose}
use Rattle.afl_outside.specs.Source.{SourceState, Gives}
use Rattle.backup_format.specs.Backups.{IsNoBackupAt}
use Rattle.backup_format.specs.Laws.{AreArrays}
use Rattle.backup_format.specs.PiecePlaces.{arrays_in}
use Rattle.backup_format.specs.Table.{backup_in}
use Rattle.backup_format.specs.declared.arrays.ArrayAt.{ArrayAt}
use Rattle.backup_restoring.specs.Restores.{HasGiven, free_pages, restore_pages, restored_by}
use Rattle.backup_restoring.specs.declared.fault.RestoreFault.{RestoreFault}
use Rattle.backup_restoring.specs.declared.fault.RestoreFault.TheVariants as faults

-- ---- the stream

-- a source gave these bytes and has none left, or it failed, or memory ran out
abbrev pub WasRead : SourceState → SourceState → Result (List ℕ) RestoreFault → Type 0
WasRead old new (Ok bytes) = Gives old new bytes × IsAtEnd new.left
WasRead old new (Err faults.Source) = HasGiven old new × Rose old.faults new.faults
WasRead old new (Err faults.Disk) = ⊥
WasRead old new (Err (faults.NotEmpty count)) = ⊥
WasRead old new (Err (faults.NotBackup at)) = ⊥
WasRead old new (Err (faults.Full needed free)) = ⊥
WasRead old new (Err (faults.NotDatabase page)) = ⊥
WasRead old new (Err faults.Memory) = HasGiven old new

abbrev pub IsDecoded : List ℕ → Result (List ArrayAt) RestoreFault → Type 0
IsDecoded bytes (Ok arrays) = (backup_in bytes ≡ Ok (arrays_in bytes arrays)) × AreArrays (arrays_in bytes arrays)
IsDecoded bytes (Err (faults.NotBackup at)) = IsNoBackupAt at bytes
IsDecoded bytes (Err faults.Source) = ⊥
IsDecoded bytes (Err faults.Disk) = ⊥
IsDecoded bytes (Err (faults.NotEmpty count)) = ⊥
IsDecoded bytes (Err (faults.Full needed free)) = ⊥
IsDecoded bytes (Err (faults.NotDatabase page)) = ⊥
IsDecoded bytes (Err faults.Memory) = Unit {0}

abbrev pub IsFitting : ℕ → ℕ → Result (Unit {0}) RestoreFault → Type 0
IsFitting pages needed (Ok u) = needed ≤ free_pages pages
IsFitting pages needed (Err (faults.Full told free)) = (free_pages pages < needed) × (told ≡ min needed (2 ^ 32 - 1)) × (free ≡ free_pages pages)
IsFitting pages needed (Err faults.Source) = ⊥
IsFitting pages needed (Err faults.Disk) = ⊥
IsFitting pages needed (Err (faults.NotEmpty count)) = ⊥
IsFitting pages needed (Err (faults.NotBackup at)) = ⊥
IsFitting pages needed (Err (faults.NotDatabase page)) = ⊥
IsFitting pages needed (Err faults.Memory) = Unit {0}

-- a backup that may be restored, or why it may not
pub record MayRestore (pages : ℕ) (bytes : List ℕ) (arrays : List ArrayAt) : Type 0 where
  pub read : backup_in bytes ≡ Ok (arrays_in bytes arrays)
  pub rules : AreArrays (arrays_in bytes arrays)
  pub fits : restore_pages (arrays_in bytes arrays) ≤ free_pages pages
  pub by : restored_by pages bytes ≡ Ok tt

abbrev pub IsReadBackup : ℕ → List ℕ → Result (List ArrayAt) RestoreFault → Type 0
IsReadBackup pages bytes (Ok arrays) = MayRestore pages bytes arrays
IsReadBackup pages bytes (Err (faults.NotBackup at)) = restored_by pages bytes ≡ Err (faults.NotBackup at)
IsReadBackup pages bytes (Err (faults.Full needed free)) = restored_by pages bytes ≡ Err (faults.Full needed free)
IsReadBackup pages bytes (Err faults.Source) = ⊥
IsReadBackup pages bytes (Err faults.Disk) = ⊥
IsReadBackup pages bytes (Err (faults.NotEmpty count)) = ⊥
IsReadBackup pages bytes (Err (faults.NotDatabase page)) = ⊥
IsReadBackup pages bytes (Err faults.Memory) = Unit {0}
