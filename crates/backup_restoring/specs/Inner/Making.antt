-- What making a file answers.
use Rattle.std.specs.Prelude.{◌≡◌, ◌≢◌, ℕ, List, length, IsTrue, IfSome}
use Rattle.afl_outside.specs.Counts.{Rose}
use Rattle.afl_outside.specs.Disk.{DiskState, DiskGoesOn, Moment}
use Rattle.page_chain.specs.Puts.{OnlySyncs}
use Rattle.page_chain.specs.declared.fault.OpenCause.{OpenCause}
use Rattle.page_chain.specs.declared.fault.OpenCause.TheVariants as causes
use Rattle.page_chain.specs.declared.slots.slots.slots.Slots.{Slots}
use Rattle.page_file.specs.Moments.{IsKnown}
use Rattle.page_file.specs.Start.{IsEmptyDatabase}
use Rattle.page_file.specs.declared.making.fault.InitFault.{InitFault}
use Rattle.page_file.specs.declared.making.fault.InitFault.TheVariants as inits
use Rattle.plan_changes.specs.Databases.{Database}
use Rattle.plan_changes.specs.Stored.{IsDatabase}
use Rattle.backup_format.specs.Backups.{backup}
use Rattle.backup_restoring.specs.Restores.{IsImageOf}
use Rattle.backup_restoring.specs.Inner.Writing.{IsNewFile}
use Rattle.backup_restoring.specs.declared.fault.RestoreFault.{RestoreFault}
use Rattle.backup_restoring.specs.declared.fault.RestoreFault.TheVariants as faults

-- why a disk was not found empty
abbrev pub IsMeasureFault : RestoreFault → DiskState → DiskState → Type 0
IsMeasureFault faults.Source old new = ⊥
IsMeasureFault faults.Disk old new = Rose old.faults new.faults
IsMeasureFault (faults.NotEmpty count) old new = Unit {0}
IsMeasureFault (faults.NotBackup at) old new = ⊥
IsMeasureFault (faults.Full needed free) old new = ⊥
IsMeasureFault (faults.NotDatabase page) old new = ⊥
IsMeasureFault faults.Memory old new = Unit {0}

-- why a disk was not made a new file: it has bytes after all and stays as it is; or what was made isn't read back, which an honest disk
-- that tells its bytes does
abbrev pub IsMakeFault : RestoreFault → Moment → Moment → Type 0
IsMakeFault faults.Source old new = ⊥
IsMakeFault faults.Disk old new = Rose old.state.faults new.state.faults
IsMakeFault (faults.NotEmpty count) old new = OnlySyncs old new × IfSome old.state.seen (λ file. (count ≡ length file) × (count ≢ 0))
IsMakeFault (faults.NotBackup at) old new = ⊥
IsMakeFault (faults.Full needed free) old new = ⊥
IsMakeFault (faults.NotDatabase page) old new = IsTrue old.state.honest → IfSome old.state.seen (λ _. ⊥)
IsMakeFault faults.Memory old new = Unit {0}

pub record FailsNew (fault : RestoreFault) (old new : Moment) : Type 0 where
  pub same : DiskGoesOn old.state new.state
  pub cause : IsMakeFault fault old new

abbrev pub init_fault : InitFault → RestoreFault
init_fault inits.Disk = faults.Disk
init_fault (inits.NotEmpty count) = faults.NotEmpty count
init_fault inits.Memory = faults.Memory

abbrev pub open_fault : OpenCause → RestoreFault
open_fault causes.Disk = faults.Disk
open_fault (causes.NotDatabase page) = faults.NotDatabase page
open_fault causes.Memory = faults.Memory

-- ---- the file that was made

pub record OpensMade (disk : Moment) (slots : Slots) (now : Moment) : Type 0 where
  pub same : DiskGoesOn disk.state now.state
  pub slots_are : IsNewFile slots
  pub known : IsTrue disk.state.honest → IfSome disk.state.seen (λ seen. IsKnown slots seen now)

-- why it wasn't opened: where it isn't read back, it was none of an empty database
abbrev pub IsOpenFault : RestoreFault → Moment → Moment → Type 0
IsOpenFault faults.Source old new = ⊥
IsOpenFault faults.Disk old new = Rose old.state.faults new.state.faults
IsOpenFault (faults.NotEmpty count) old new = ⊥
IsOpenFault (faults.NotBackup at) old new = ⊥
IsOpenFault (faults.Full needed free) old new = ⊥
IsOpenFault (faults.NotDatabase page) old new = IfSome old.state.seen (λ seen. IsEmptyDatabase seen → ⊥)
IsOpenFault faults.Memory old new = Unit {0}

pub record FailsMade (fault : RestoreFault) (old new : Moment) : Type 0 where
  pub same : DiskGoesOn old.state new.state
  pub cause : IsOpenFault fault old new

-- ---- the whole

-- why bytes that were read weren't restored
abbrev pub IsRestoreFault : RestoreFault → Moment → Moment → Type 0
IsRestoreFault faults.Source old new = ⊥
IsRestoreFault faults.Disk old new = Rose old.state.faults new.state.faults
IsRestoreFault (faults.NotEmpty count) old new = OnlySyncs old new × IfSome old.state.seen (λ file. (count ≡ length file) × (count ≢ 0))
IsRestoreFault (faults.NotBackup at) old new = OnlySyncs old new
IsRestoreFault (faults.Full needed free) old new = OnlySyncs old new
IsRestoreFault (faults.NotDatabase page) old new = IsTrue old.state.honest → IfSome old.state.seen (λ _. ⊥)
IsRestoreFault faults.Memory old new = Unit {0}

-- the bytes are a database's backup, and the disk holds it
pub record IsRestoredFrom (bytes : List ℕ) (at : Moment) : Type 0 where
  pub db : Database
  pub database : IsDatabase db
  pub is : bytes ≡ backup db
  pub image : IsImageOf db at
