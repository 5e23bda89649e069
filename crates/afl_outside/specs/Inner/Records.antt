-- What the calls of a disk in memory do.
use Rattle.std.specs.Prelude.{◌≡◌, ℕ, List, [], ◌∷◌, ◌++◌, true, length, Contains, Some, Result, Ok, Err, ◌⊎◌}
use Rattle.afl_outside.specs.Counts.{risen}
use Rattle.afl_outside.specs.Disk.{DiskState, Moment}
use Rattle.afl_outside.specs.Images.{content_after, Leaves, LeftSince}
use Rattle.afl_outside.specs.declared.in_memory.device_call.DeviceCall.{DeviceCall}
use Rattle.afl_outside.specs.declared.source.Failed.{Failed}

-- The bytes with which a disk in memory began, and its calls. What it holds and leaves follows from them.
pub record Recorded : Type 0 where
  pub first : List ℕ
  pub calls : List DeviceCall

-- no call yet
abbrev pub fresh : List ℕ → Recorded
fresh content = record { first = content; calls = [] }

-- after one call more
abbrev pub with_call : DeviceCall → Recorded → Recorded
with_call call r = record r { calls = r.calls ++ call ∷ [] }

-- what a read gives
abbrev pub content_of : Recorded → List ℕ
content_of r = content_after r.first r.calls

-- the images that a crash may leave now, and those that one since a moment might have left
abbrev pub images_of : Recorded → List ℕ → Type 0
images_of r = Leaves r.first r.calls

abbrev pub images_since : Recorded → ℕ → List ℕ → Type 0
images_since r = LeftSince r.first r.calls

-- A disk in memory, with the numbers of the calls that are to fail.
pub record MemoryDisk : Type 0 where
  pub name : List ℕ
  pub bytes : Recorded
  pub fails : List ℕ
  pub faults : ℕ
  pub wants : ℕ

-- one that was never called
abbrev pub new_disk : List ℕ → List ℕ → List ℕ → MemoryDisk
new_disk name content fails = record { name = name; bytes = fresh content; fails = fails; faults = 0; wants = 0 }

-- the next call is one that is to fail
abbrev pub FailsNext : MemoryDisk → Type 0
FailsNext d = Contains d.fails (length d.bytes.calls)

-- A call is recorded, as `done` or, where its number is listed, as `undone`, and then it fails. Where no memory is found it isn't
-- recorded, and changes nothing but the count of wants.
abbrev pub MemoryCalls : {T : Type 0} → DeviceCall → DeviceCall → MemoryDisk → MemoryDisk → Result T Failed → Type 0
MemoryCalls done undone old new (Ok x) = ¬ FailsNext old × (new ≡ record old { bytes = with_call done old.bytes })
MemoryCalls done undone old new (Err e) = (FailsNext old × (new ≡ record old { bytes = with_call undone old.bytes; faults = risen old.faults }))
    ⊎ (new ≡ record old { wants = risen old.wants })

-- A disk in memory that fails only where no memory is found.
pub record SureBytes : Type 0 where
  pub bytes : Recorded
  pub wants : ℕ

-- one to which nothing was written
abbrev pub unwritten_disk : List ℕ → SureBytes
unwritten_disk content = record { bytes = fresh content; wants = 0 }

-- a call that was done and recorded, or that found no memory and changed nothing else
abbrev pub SureCalls : {T : Type 0} → DeviceCall → SureBytes → SureBytes → Result T Failed → Type 0
SureCalls call old new (Ok x) = new ≡ record old { bytes = with_call call old.bytes }
SureCalls call old new (Err e) = new ≡ record old { wants = risen old.wants }

-- what a disk with this record tells
abbrev pub told_disk : List ℕ → Recorded → ℕ → ℕ → DiskState
told_disk name r faults wants = record {
  name = Some name;
  first = Some r.first;
  seen = Some (content_of r);
  honest = true;
  moment = length r.calls;
  faults = faults;
  wants = wants;
}

abbrev pub memory_disk_state : MemoryDisk → DiskState
memory_disk_state d = told_disk d.name d.bytes d.faults d.wants

abbrev pub sure_disk_state : SureBytes → DiskState
sure_disk_state d = told_disk [] d.bytes 0 d.wants

-- what it tells, and the images that a crash may leave
abbrev pub moment_of : DiskState → Recorded → Moment
moment_of state r = record { state = state; may_leave = images_of r; left_since = images_since r }

abbrev pub memory_disk_moment : MemoryDisk → Moment
memory_disk_moment d = moment_of (memory_disk_state d) d.bytes

abbrev pub sure_disk_moment : SureBytes → Moment
sure_disk_moment d = moment_of (sure_disk_state d) d.bytes
