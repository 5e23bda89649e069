-- What opening a file answers.
use Rattle.std.specs.Prelude.{◌≡◌, ℕ, ◌+◌, ◌*◌, ◌<◌, ◌≤◌, ◌⊎◌, List, length, slice_index, false, Some, None, Result, Ok, Err}
use Rattle.page_chain.specs.Counts.{Rose}
use Rattle.page_chain.specs.Disk.{DiskState}
use Rattle.page_chain.specs.Places.{other, IsPage}
use Rattle.page_chain.specs.Roots.{current}
use Rattle.page_chain.specs.Logs.{IsLog, HasStray}
use Rattle.page_chain.specs.Opens.{HasLog, OpensAs, WrongAt}
use Rattle.page_chain.specs.declared.slots.layout.sides.Format.TheVariants.{Two}
use Rattle.page_chain.specs.declared.slots.layout.roots.OpenRoot.{OpenRoot}
use Rattle.page_chain.specs.declared.slots.layout.logs.RecordAt.{RecordAt}
use Rattle.page_chain.specs.Standing.{OtherHolds}
use Rattle.page_chain.specs.declared.slots.slots.slots.RootSlot.{RootSlot}
use Rattle.page_chain.specs.declared.slots.slots.slots.RootSlot.TheVariants as roots
use Rattle.page_chain.specs.declared.slots.slots.slots.NextEntry.TheVariants as entries
use Rattle.page_chain.specs.Steps.{first_target}
use Rattle.page_chain.specs.declared.slots.slots.slots.Slots.{Slots}
use Rattle.page_chain.specs.declared.fault.OpenCause.{OpenCause}
use Rattle.page_chain.specs.declared.fault.OpenCause.TheVariants.{Disk, NotDatabase, Memory}

-- the file has all of a page, and these are its bytes
pub record HasPage (number : ℕ) (page file : List ℕ) : Type 0 where
  pub whole : 4096 * (number + 1) ≤ length file
  pub bytes : (k : ℕ) → k < 4096 → slice_index page k ≡ slice_index file (4096 * number + k)

-- the page passes the file's end
abbrev pub CutsPage : ℕ → List ℕ → Type 0
CutsPage number file = length file < 4096 * (number + 1)

-- The disk's fault, or want of memory, comes only where its count rose.
abbrev pub HasCause : OpenCause → DiskState → DiskState → Type 0
HasCause Disk old new = Rose old.faults new.faults
HasCause (NotDatabase page) old new = Unit {0}
HasCause Memory old new = Rose old.wants new.wants

-- the disk failed, or found no memory
abbrev pub IsDeviceFault : OpenCause → DiskState → DiskState → Type 0
IsDeviceFault Disk old new = Rose old.faults new.faults
IsDeviceFault (NotDatabase page) old new = ⊥
IsDeviceFault Memory old new = Rose old.wants new.wants

-- what a log page on its own says
abbrev pub PageLog : List ℕ → ℕ → Result (List RecordAt) OpenCause → Type 0
PageLog page log (Ok records) = IsLog 0 records page × (length records ≤ 64)
PageLog page log (Err fault) = (fault ≡ NotDatabase log) × HasStray 0 page

-- page 0 was read: the current slot, and what is known of the other one
abbrev pub FrontRead : List ℕ → Result (OpenRoot × RootSlot) OpenCause → Type 0
FrontRead file (Ok x) = (current file ≡ Some x.0) × OtherHolds x.1 (other x.0.side) x.0.root.sequence file
FrontRead file (Err Disk) = Unit {0}
FrontRead file (Err (NotDatabase page)) = (page ≡ 0) × (current file ≡ None)
FrontRead file (Err Memory) = Unit {0}

-- the log page of this number was read
abbrev pub LogRead : List ℕ → ℕ → Result (List RecordAt) OpenCause → Type 0
LogRead file log (Ok records) = IsPage log (length file) × IsLog (4096 * log) records file
LogRead file log (Err Disk) = Unit {0}
LogRead file log (Err (NotDatabase page)) = ((page ≡ 0) × (¬ IsPage log (length file)))
    ⊎ (IsPage log (length file) × (page ≡ log) × HasStray (4096 * page) file)
LogRead file log (Err Memory) = Unit {0}

-- the records of a current slot were read, of which format 1 has none
abbrev pub RecordsRead : List ℕ → OpenRoot → Result (List RecordAt) OpenCause → Type 0
RecordsRead file it (Ok records) = HasLog it.format it.root.log records file
RecordsRead file it (Err Disk) = Unit {0}
RecordsRead file it (Err (NotDatabase page)) = (it.format ≡ Two) × LogRead file it.root.log (Err (NotDatabase page))
RecordsRead file it (Err Memory) = Unit {0}

-- closed, or open on an older root
abbrev pub IsRead : RootSlot → Type 0
IsRead roots.Closed = Unit {0}
IsRead roots.Older = Unit {0}
IsRead (roots.Written root) = ⊥
IsRead (roots.Opening root) = ⊥

-- nothing was written to the slots yet
pub record AreFresh (slots : Slots) : Type 0 where
  pub target : slots.target ≡ first_target slots.current.format (length slots.records)
  pub fits : length slots.records ≤ 64
  pub other : IsRead slots.other
  pub next : slots.next ≡ entries.Closed
  pub sure : slots.doubtful ≡ false
  pub zeroed : slots.zeroed ≡ None

-- the file was opened, or is wrong at a page
abbrev pub IsOpened : List ℕ → Result Slots OpenCause → Type 0
IsOpened file (Ok slots) = OpensAs slots.current slots.records file
IsOpened file (Err Disk) = Unit {0}
IsOpened file (Err (NotDatabase page)) = WrongAt page file
IsOpened file (Err Memory) = Unit {0}
