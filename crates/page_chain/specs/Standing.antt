-- What is known of the slots of a file, and of each image that a crash may leave of it.
use Rattle.std.specs.Prelude.{◌≡◌, ◌≢◌, ℕ, ◌+◌, ◌*◌, ◌<◌, ◌≤◌, ◌⊎◌, List, [], ◌∷◌, ◌++◌, length}
use Rattle.std.specs.Prelude.{slice_index, slice_index_or, IsTrue, true, false, Option, Some, None, IfSome}
use Rattle.afl_outside.specs.Disk.{LeavesOnly, Moment, Only}
use Rattle.page_chain.specs.Places.{gate_of, body_of, other, IsPage, SameBut}
use Rattle.page_chain.specs.Roots.{has_front, root_at, slot_in}
use Rattle.page_chain.specs.Logs.{record_at}
use Rattle.page_chain.specs.Opens.{OpensAs}
use Rattle.page_chain.specs.declared.slots.layout.sides.Side.{Side}
use Rattle.page_chain.specs.declared.slots.layout.sides.Format.{Format}
use Rattle.page_chain.specs.declared.slots.layout.sides.Format.TheVariants.{One, Two}
use Rattle.page_chain.specs.declared.slots.layout.roots.Root.{Root}
use Rattle.page_chain.specs.declared.slots.layout.roots.OpenRoot.{OpenRoot}
use Rattle.page_chain.specs.declared.slots.layout.logs.RecordAt.{RecordAt}
use Rattle.page_chain.specs.declared.slots.slots.slots.Slots.{Slots}
use Rattle.page_chain.specs.declared.slots.slots.slots.RootSlot.{RootSlot}
use Rattle.page_chain.specs.declared.slots.slots.slots.RootSlot.TheVariants as roots
use Rattle.page_chain.specs.declared.slots.slots.slots.NextEntry.{NextEntry}
use Rattle.page_chain.specs.declared.slots.slots.slots.NextEntry.TheVariants as entries
use Rattle.page_chain.specs.declared.slots.slots.slots.Target.{Target}
use Rattle.page_chain.specs.declared.slots.slots.slots.Target.TheVariants as targets

-- where the gate of the next log entry stands
abbrev pub entry_gate : Slots → ℕ
entry_gate slots = 4096 * slots.current.root.log + 64 * length slots.records

-- where the target's gate stands
abbrev pub gate_place : Target → Slots → ℕ
gate_place targets.Root slots = gate_of (other slots.current.side)
gate_place targets.Record slots = entry_gate slots

-- the page in which the target lies
abbrev pub target_page : Target → Slots → ℕ
target_page targets.Root slots = 0
target_page targets.Record slots = slots.current.root.log

-- the target's gate and its body lie in one page, which the file has
pub record HasTarget (slots : Slots) (file : List ℕ) : Type 0 where
  pub from : 4096 * target_page slots.target slots ≤ gate_place slots.target slots
  pub to : gate_place slots.target slots + 32 ≤ 4096 * (target_page slots.target slots + 1)
  pub whole : 4096 * (target_page slots.target slots + 1) ≤ length file

-- all bytes of a page are zeros, and the file has them
pub record IsZeroed (page : ℕ) (file : List ℕ) : Type 0 where
  pub is_page : IsPage page (length file)
  pub zeros : (k : ℕ) → k < 4096 → slice_index file (4096 * page + k) ≡ 0

-- what an image holds of the root slot that isn't current: closed; or with an older root; or closed with this newer root; or with this
-- newer root, whose log page is empty
abbrev pub OtherHolds : RootSlot → Side → ℕ → List ℕ → Type 0
OtherHolds roots.Closed side sequence file = slot_in side file ≡ None
OtherHolds roots.Older side sequence file = (root_at (body_of side) file).sequence < sequence
OtherHolds (roots.Written root) side sequence file = (slot_in side file ≡ None) × (root_at (body_of side) file ≡ root) × (sequence < root.sequence)
OtherHolds (roots.Opening root) side sequence file = IsZeroed root.log file × (root_at (body_of side) file ≡ root) × (sequence < root.sequence)

-- what an image holds of page 0
pub record RootsHold (slots : Slots) (file : List ℕ) : Type 0 where
  pub front : has_front file ≡ true
  pub current : slot_in slots.current.side file ≡ Some slots.current
  pub other : OtherHolds slots.other (other slots.current.side) slots.current.root.sequence file

-- what an image holds of the log entry whose gate stands at a place: closed; or closed with this record; or with this record
abbrev pub NextHolds : NextEntry → ℕ → List ℕ → Type 0
NextHolds entries.Closed at file = slice_index file at ≢ 1
NextHolds (entries.Written entry) at file = (slice_index file at ≢ 1) × (record_at (at + 8) file ≡ entry)
NextHolds (entries.Opening entry) at file = record_at (at + 8) file ≡ entry

-- what an image holds of the log page
pub record PageHolds (log : ℕ) (records : List RecordAt) (known : NextEntry) (file : List ℕ) : Type 0 where
  pub is_page : IsPage log (length file)
  pub fits : length records ≤ 64
  pub opened : (k : ℕ) → k < length records → slice_index file (4096 * log + 64 * k) ≡ 1
  pub next : length records < 64 → NextHolds known (4096 * log + 64 * length records) file
  pub closed : (k : ℕ) → length records < k → k < 64 → slice_index file (4096 * log + 64 * k) ≢ 1
  pub each : (d : RecordAt) (k : ℕ) → k < length records → slice_index_or records k d ≡ record_at (4096 * log + 64 * k + 8) file

abbrev pub LogHolds : Format → ℕ → List RecordAt → NextEntry → List ℕ → Type 0
LogHolds One log records next file = (records ≡ []) × (next ≡ entries.Closed)
LogHolds Two log records next file = PageHolds log records next file

pub record Holds (slots : Slots) (file : List ℕ) : Type 0 where
  pub roots : RootsHold slots file
  pub log : LogHolds slots.current.format slots.current.root.log slots.records slots.next file

-- the gate of the target where it was filled
abbrev pub filled_root : RootSlot → Side → Option ℕ
filled_root roots.Closed side = None
filled_root roots.Older side = None
filled_root (roots.Written root) side = Some (gate_of side)
filled_root (roots.Opening root) side = Some (gate_of side)

abbrev pub filled_entry : NextEntry → ℕ → Option ℕ
filled_entry entries.Closed at = None
filled_entry (entries.Written entry) at = Some at
filled_entry (entries.Opening entry) at = Some at

abbrev pub filled_gate : Target → Slots → Option ℕ
filled_gate targets.Root slots = filled_root slots.other (other slots.current.side)
filled_gate targets.Record slots = filled_entry slots.next (entry_gate slots)

-- nothing is being opened
abbrev pub IsStillRoot : RootSlot → Type 0
IsStillRoot roots.Closed = Unit {0}
IsStillRoot roots.Older = Unit {0}
IsStillRoot (roots.Written root) = Unit {0}
IsStillRoot (roots.Opening root) = ⊥

abbrev pub IsStillEntry : NextEntry → Type 0
IsStillEntry entries.Closed = Unit {0}
IsStillEntry (entries.Written entry) = Unit {0}
IsStillEntry (entries.Opening entry) = ⊥

-- only the target may be being opened
abbrev pub IsAlone : Target → Slots → Type 0
IsAlone targets.Root slots = IsStillEntry slots.next
IsAlone targets.Record slots = IsStillRoot slots.other

-- while a root slot is the target, the page that was written as zeros holds them
abbrev pub ZeroHolds : Target → Option ℕ → List ℕ → Type 0
ZeroHolds targets.Root zeroed seen = IfSome zeroed (λ page. IsZeroed page seen)
ZeroHolds targets.Record zeroed seen = Unit {0}

-- All images hold what is known, as does what a read gives. Where the target is filled, they hold what a read gives, but for its gate.
pub record IsSound (slots : Slots) (seen : List ℕ) (may_leave : List ℕ → Type 0) : Type 0 where
  pub images : (c : List ℕ) → may_leave c → Holds slots c
  pub zeroed : ZeroHolds slots.target slots.zeroed seen
  pub alone : IsAlone slots.target slots
  pub sure : slots.doubtful ≡ false → IsStillRoot slots.other × IsStillEntry slots.next
  pub filled : IfSome (filled_gate slots.target slots) (λ at. (c : List ℕ) → may_leave c → SameBut at 1 seen c)

-- this slot's root, open in one of the two formats
abbrev pub root_in : Format → Side → Root → OpenRoot
root_in One side root = record { side = side; format = One; root = record root { log = 0 } }
root_in Two side root = record { side = side; format = Two; root = root }

-- the file opens as the root that was being opened
abbrev pub OpensAsRoot : RootSlot → Side → List ℕ → Type 0
OpensAsRoot roots.Closed side file = ⊥
OpensAsRoot roots.Older side file = ⊥
OpensAsRoot (roots.Written root) side file = ⊥
OpensAsRoot (roots.Opening root) side file = (format : Format) × OpensAs (root_in format side root) [] file

-- the file opens with the record that was being opened
abbrev pub OpensWith : NextEntry → OpenRoot → List RecordAt → List ℕ → Type 0
OpensWith entries.Closed current records file = ⊥
OpensWith (entries.Written entry) current records file = ⊥
OpensWith (entries.Opening entry) current records file = OpensAs current (records ++ entry ∷ []) file

-- The file opens as it did, or with the slot that was being opened.
abbrev pub MayOpen : Slots → List ℕ → Type 0
MayOpen slots file = OpensAs slots.current slots.records file ⊎ (OpensAsRoot slots.other (other slots.current.side) file
    ⊎ OpensWith slots.next slots.current slots.records file)

-- The target is the other root slot, or a log entry that is there.
abbrev pub IsTarget : Slots → Type 0
IsTarget slots = slots.target ≡ targets.Record → (slots.current.format ≡ Two) × (length slots.records < 64)

abbrev pub IsShutRoot : RootSlot → Type 0
IsShutRoot roots.Closed = Unit {0}
IsShutRoot roots.Older = ⊥
IsShutRoot (roots.Written root) = Unit {0}
IsShutRoot (roots.Opening root) = ⊥

abbrev pub IsShutEntry : NextEntry → Type 0
IsShutEntry entries.Closed = Unit {0}
IsShutEntry (entries.Written entry) = Unit {0}
IsShutEntry (entries.Opening entry) = ⊥

-- the target's gate can't stand open
abbrev pub IsShut : Target → Slots → Type 0
IsShut targets.Root slots = IsShutRoot slots.other
IsShut targets.Record slots = IsShutEntry slots.next

-- the target is closed on the disk
pub record IsClosed (slots : Slots) : Type 0 where
  pub shut : IsShut slots.target slots
  pub sure : slots.doubtful ≡ false

-- the target is closed on the disk, and what it is to open is there
abbrev pub IsReady : Target → Slots → Type 0
IsReady targets.Root slots = (root : Root) × (slots.other ≡ roots.Written root) × (slots.zeroed ≡ Some root.log)
IsReady targets.Record slots = (at : RecordAt) × (slots.next ≡ entries.Written at)

-- A call on an honest disk that tells its bytes leaves the slots sound.
abbrev pub KeepsSound : Slots → Slots → Moment → Moment → Type 0
KeepsSound slots later old new = IsTrue old.state.honest
    → IfSome old.state.seen (λ seen. IsSound slots seen old.may_leave → (now : List ℕ) × (new.state.seen ≡ Some now) × IsSound later now new.may_leave)

-- On an honest disk that tells its bytes, a crash at any moment of a call leaves a file that opens as the slots say.
abbrev pub LeavesOpening : Slots → Slots → Moment → Moment → Type 0
LeavesOpening slots during old new = IsTrue old.state.honest → IfSome old.state.seen (λ seen. IsSound slots seen old.may_leave
    → LeavesOnly old.state.moment new.state.moment old.left_since new.left_since (MayOpen during))

-- all that an honest disk tells is on it
abbrev pub IsDurable : Moment → Moment → Type 0
IsDurable old new = IsTrue old.state.honest → IfSome old.state.seen (λ seen. (now : List ℕ) × (new.state.seen ≡ Some now) × Only now new.may_leave)
