-- What writing to pages one after the other leaves.
use Rattle.std.specs.Prelude.{◌≡◌, ℕ, ◌+◌, false, List, [], ◌∷◌, length, slice_index, IsTrue, Some, IfSome, sum_by}
use Rattle.afl_outside.specs.Counts.{Rose}
use Rattle.afl_outside.specs.Disk.{DiskState, DiskGoesOn, Moment, Only}
use Rattle.page_chain.specs.Opens.{OpensAs}
use Rattle.page_chain.specs.Places.{KeepsPages}
use Rattle.page_chain.specs.Pages.{page_size, pages_for}
use Rattle.page_chain.specs.Chains.{content_size, HoldsChain}
use Rattle.page_chain.specs.Standing.{root_in, IsClosed}
use Rattle.page_chain.specs.declared.slots.layout.sides.Side.{Side}
use Rattle.page_chain.specs.declared.slots.layout.sides.Format.TheVariants.{Two}
use Rattle.page_chain.specs.declared.slots.slots.slots.Slots.{Slots}
use Rattle.page_chain.specs.declared.slots.slots.slots.Target.TheVariants as targets
use Rattle.page_file.specs.Moments.{IsKnown}
use Rattle.page_file.specs.Start.{first_root}
use Rattle.backup_format.specs.Pieces.{PiecesArray}
use Rattle.backup_restoring.specs.Inner.Layout.{pages_from, laid, AllLaid, root_of, HoldsRestored}
use Rattle.backup_restoring.specs.declared.fault.RestoreFault.{RestoreFault}
use Rattle.backup_restoring.specs.declared.fault.RestoreFault.TheVariants as faults

-- the disk failed, or there was no memory
abbrev pub IsDiskFault : RestoreFault → DiskState → DiskState → Type 0
IsDiskFault faults.Source old new = ⊥
IsDiskFault faults.Disk old new = Rose old.faults new.faults
IsDiskFault (faults.NotEmpty count) old new = ⊥
IsDiskFault (faults.NotBackup at) old new = ⊥
IsDiskFault (faults.Full needed free) old new = ⊥
IsDiskFault (faults.NotDatabase page) old new = ⊥
IsDiskFault faults.Memory old new = Unit {0}

pub record Fails (fault : RestoreFault) (old new : DiskState) : Type 0 where
  pub same : DiskGoesOn old new
  pub cause : IsDiskFault fault old new

-- over the first root of a new file, the other root slot is the target of the next commit, and closed
pub record AwaitsBase (slots : Slots) : Type 0 where
  pub closed : IsClosed slots
  pub target : slots.target ≡ targets.Root
  pub root : slots.current.root ≡ first_root.root

-- so many pages from one on were written, and this holds of what a read gives
pub record Writes (first count : ℕ) (P : List ℕ → Type 0) (slots later : Slots) (old new : Moment) : Type 0 where
  pub same : DiskGoesOn old.state new.state
  pub awaits : AwaitsBase later
  pub known : (seen : List ℕ) → IsKnown slots seen old → (now : List ℕ) × IsKnown later now new × KeepsPages (pages_from first count) seen now × P now

-- the pages of a chain of so many bytes
abbrev pub chain_needs : ℕ → ℕ
chain_needs n = pages_for (content_size page_size) n

-- some were written, each from a page on, and what is made of them
pub record Lays {A B : Type 0} (size : A → ℕ) (place : ℕ → A → B) (P : List ℕ → ℕ → A → Type 0) (first : ℕ) (xs : List A) (next : ℕ) (made : List B)
    (slots later : Slots) (old new : Moment) : Type 0 where
  pub next_is : next ≡ first + sum_by size xs
  pub made_is : made ≡ laid size place first xs
  pub writes : Writes first (sum_by size xs) (λ now. AllLaid size (P now) first xs) slots later old new

-- the database of these arrays is on the disk, and nothing else
pub record IsMade (arrays : List PiecesArray) (at : Moment) : Type 0 where
  pub file : List ℕ
  pub side : Side
  pub reads : at.state.seen ≡ Some file
  pub leaves : Only file at.may_leave
  pub opens : OpensAs (root_in Two side (root_of arrays)) [] file
  pub holds : HoldsRestored file arrays

-- ---- the base

-- The one image opens with a base whose catalogue are these n bytes, in a chain from a page on, and whose log page is behind it. But for these
-- and page 0 no page was written
pub record IsBase (first n : ℕ) (bytes seen : List ℕ) (new : Moment) : Type 0 where
  pub now : List ℕ
  pub side : Side
  pub reads : new.state.seen ≡ Some now
  pub leaves : Only now new.may_leave
  pub keeps : KeepsPages (0 ∷ pages_from first (chain_needs n + 1)) seen now
  pub opens : OpensAs (root_in Two side (record { sequence = 2; length = n; first = slice_index (pages_from first (chain_needs n)) 0; log = first + chain_needs n })) [] now
  pub holds : HoldsChain page_size now (pages_from first (chain_needs n)) bytes

pub record IsBased (first : ℕ) (bytes : List ℕ) (slots : Slots) (old new : Moment) : Type 0 where
  pub same : DiskGoesOn old.state new.state
  pub based : (seen : List ℕ) → IsKnown slots seen old → IsBase first (length bytes) bytes seen new

-- the root slot that isn't current was closed
pub record Closes (slots later : Slots) (old new : Moment) : Type 0 where
  pub same : DiskGoesOn old.state new.state
  pub awaits : AwaitsBase later
  pub known : (seen : List ℕ) → IsKnown slots seen old → (now : List ℕ) × IsKnown later now new

-- the database of these arrays was made of a new file
pub record Makes (arrays : List PiecesArray) (slots : Slots) (old new : Moment) : Type 0 where
  pub same : DiskGoesOn old.state new.state
  pub made : (seen : List ℕ) → IsKnown slots seen old → IsMade arrays new

-- ---- a new file

-- the slots of a new file, before anything was written to them
pub record IsNewFile (slots : Slots) : Type 0 where
  pub sure : slots.doubtful ≡ false
  pub root : slots.current.root ≡ first_root.root

-- an empty disk was made one
pub record OpensNew (disk : Moment) (slots : Slots) (now : Moment) : Type 0 where
  pub same : DiskGoesOn disk.state now.state
  pub slots_are : IsNewFile slots
  pub known : IsTrue disk.state.honest → IfSome disk.state.seen (λ _. (seen : List ℕ) × IsKnown slots seen now)
