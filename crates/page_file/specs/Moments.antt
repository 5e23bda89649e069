-- What each image at each moment of a commit opens as, and which of its pages may differ.
use Rattle.std.specs.Prelude.{◌≡◌, ℕ, ◌⊎◌, List, [], ◌∷◌, ◌++◌, IsTrue, true, false, Some}
use Rattle.afl_outside.specs.Disk.{LeavesOnly, Moment, Only}
use Rattle.page_chain.specs.Places.{other, KeepsPages}
use Rattle.page_chain.specs.Opens.{OpensAs}
use Rattle.page_chain.specs.declared.slots.layout.sides.Format.TheVariants.{Two}
use Rattle.page_chain.specs.Inner.Runs.{Over}
use Rattle.page_chain.specs.Standing.{root_in, IsSound, MayOpen, OpensAsRoot}
use Rattle.page_chain.specs.Steps.{doubted, emptied, with_record, with_root}
use Rattle.page_chain.specs.declared.slots.slots.slots.Slots.{Slots}
use Rattle.page_chain.specs.declared.slots.slots.slots.RootSlot.TheVariants as roots
use Rattle.page_chain.specs.declared.slots.slots.slots.NextEntry.TheVariants as entries
use Rattle.page_file.specs.declared.commits.placed.Placed.{Placed}
use Rattle.page_file.specs.declared.commits.stopped.Stopped.{Stopped}
use Rattle.page_file.specs.declared.commits.stopped.Stopped.TheVariants as stages
use Rattle.page_file.specs.Commits.{HoldsAll, record_of, root_of, commit_pages, base_pages}

-- an honest disk tells these bytes, and each of its images holds what is known of the slots
pub record IsKnown (slots : Slots) (seen : List ℕ) (at : Moment) : Type 0 where
  pub honest : IsTrue at.state.honest
  pub tells : at.state.seen ≡ Some seen
  pub sound : IsSound slots seen at.may_leave

-- what the slots are now, and each image where what they were was known
pub record Leaves (slots later is : Slots) (P : List ℕ → Type 0) (old new : Moment) : Type 0 where
  pub slots_are : later ≡ is
  pub images : (seen : List ℕ) → IsKnown slots seen old → (c : List ℕ) → new.may_leave c → P c

-- what is known goes on to be known
abbrev pub StaysKnown : Slots → Slots → Moment → Moment → Type 0
StaysKnown slots later old new = (seen : List ℕ) → IsKnown slots seen old → (now : List ℕ) × IsKnown later now new

-- An image of which this page alone may differ from one of those before. It opens as what was known of the slots says.
abbrev pub IsUntouched : ℕ → Slots → (List ℕ → Type 0) → List ℕ → Type 0
IsUntouched page slots before c = Over (page ∷ []) before c × MayOpen slots c

-- an image of which these pages alone may differ, and which opens as before
abbrev pub IsUnopened : List ℕ → Slots → (List ℕ → Type 0) → List ℕ → Type 0
IsUnopened pages slots before c = Over pages before c × OpensAs slots.current slots.records c

-- an image of which these pages alone may differ, and which has what is new
abbrev pub IsOpened : List ℕ → (List ℕ → Type 0) → (List ℕ → Type 0) → List ℕ → Type 0
IsOpened pages new before c = Over pages before c × new c

-- An image at some moment of a commit that writes this page for its slot, and these for itself: while an earlier slot may stand open, none
-- of its own is written; from then on it opens as before or has what is new.
abbrev pub MayBe : ℕ → List ℕ → Slots → (List ℕ → Type 0) → (List ℕ → Type 0) → List ℕ → Type 0
MayBe page pages slots new before c = IsUntouched page slots before c ⊎ (IsUnopened (page ∷ pages) slots before c ⊎ IsOpened (page ∷ pages) new before c)

-- what each image at each moment of a commit may be, where the slots were known at its start
abbrev pub PassesBy : ℕ → List ℕ → Slots → (List ℕ → Type 0) → Moment → Moment → Type 0
PassesBy page pages slots new old now = (seen : List ℕ) → IsKnown slots seen old
    → LeavesOnly old.state.moment now.state.moment old.left_since now.left_since (MayBe page pages slots new old.may_leave)

-- where the slots were known at the start, a read gives what it gave, but for these pages
abbrev pub Rereads : List ℕ → Slots → Moment → Moment → Type 0
Rereads pages slots old new = (seen : List ℕ) → IsKnown slots seen old → (now : List ℕ) × (new.state.seen ≡ Some now) × KeepsPages pages seen now

-- where the slots were known at the start, a read gives the one image that there is
abbrev pub LeavesOne : Slots → Moment → Moment → Type 0
LeavesOne slots old new = (seen : List ℕ) → IsKnown slots seen old → (now : List ℕ) × (new.state.seen ≡ Some now) × Only now new.may_leave

-- the file opens with the record, whose bytes it has, and the blobs'
abbrev pub HasRecord : Slots → List Placed → Placed → List ℕ → Type 0
HasRecord slots blobs chain c = OpensAs slots.current (slots.records ++ record_of chain ∷ []) c × HoldsAll c blobs chain

-- the slots once the target was closed, and what was written for it doesn't count
abbrev pub cleared : Slots → Slots
cleared slots = record (emptied slots) { doubtful = false }

-- what a commit of a record has done: the log has it, and the next target is chosen
abbrev pub AddsRecord : Slots → Slots → List Placed → Placed → Moment → Moment → Type 0
AddsRecord slots later blobs chain old new = Leaves slots later (with_record (record_of chain) (cleared slots))
    (IsOpened (slots.current.root.log ∷ commit_pages blobs chain) (HasRecord slots blobs chain) old.may_leave) old new

-- How the stage tells what a commit of a record left: the entry wasn't closed for sure; it is closed, and wasn't opened; it may be open, and
-- all that it names is there.
abbrev pub StopsRecord : Stopped → Slots → Slots → List Placed → Placed → Moment → Moment → Type 0
StopsRecord stages.Closing slots later blobs chain old new =
    Leaves slots later (doubted slots) (IsUntouched slots.current.root.log slots old.may_leave) old new
StopsRecord stages.Filling slots later blobs chain old new =
    Leaves slots later (record (cleared slots) { next = entries.Closed; doubtful = later.doubtful; zeroed = later.zeroed })
    (IsUnopened (slots.current.root.log ∷ commit_pages blobs chain) slots old.may_leave) old new
StopsRecord stages.Opening slots later blobs chain old new =
    Leaves slots later (record (cleared slots) { next = entries.Opening (record_of chain); doubtful = true; zeroed = later.zeroed })
    (λ c. HoldsAll c blobs chain × (IsUnopened (slots.current.root.log ∷ commit_pages blobs chain) slots old.may_leave c
    ⊎ IsOpened (slots.current.root.log ∷ commit_pages blobs chain) (HasRecord slots blobs chain) old.may_leave c)) old new

-- the file opens as the new root, in one of the two formats, and has the catalogue's bytes and the blobs'
abbrev pub MayHaveBase : Slots → List Placed → Placed → ℕ → ℕ → List ℕ → Type 0
MayHaveBase slots blobs chain sequence log c = OpensAsRoot (roots.Opening (root_of sequence chain log)) (other slots.current.side) c × HoldsAll c blobs chain

-- the file opens as the new root with an empty log, and has the catalogue's bytes and the blobs'
abbrev pub HasBase : Slots → List Placed → Placed → ℕ → ℕ → List ℕ → Type 0
HasBase slots blobs chain sequence log c = OpensAs (root_in Two (other slots.current.side) (root_of sequence chain log)) [] c × HoldsAll c blobs chain

-- what a commit of a new base has done: it is the current one
abbrev pub MakesBase : Slots → Slots → List Placed → Placed → ℕ → ℕ → Moment → Moment → Type 0
MakesBase slots later blobs chain sequence log old new = Leaves slots later (with_root (root_of sequence chain log) slots)
    (IsOpened (0 ∷ base_pages blobs chain log) (HasBase slots blobs chain sequence log) old.may_leave) old new

-- How the stage tells what a commit of a new base left: the root slot wasn't closed for sure; it is closed, and wasn't opened; it may be open,
-- and all that it names is there.
abbrev pub StopsBase : Stopped → Slots → Slots → List Placed → Placed → ℕ → ℕ → Moment → Moment → Type 0
StopsBase stages.Closing slots later blobs chain sequence log old new =
    Leaves slots later (doubted slots) (IsUntouched 0 slots old.may_leave) old new
StopsBase stages.Filling slots later blobs chain sequence log old new =
    Leaves slots later (record (cleared slots) { other = roots.Closed; doubtful = later.doubtful; zeroed = later.zeroed })
    (IsUnopened (0 ∷ base_pages blobs chain log) slots old.may_leave) old new
StopsBase stages.Opening slots later blobs chain sequence log old new =
    Leaves slots later (record (cleared slots) { other = roots.Opening (root_of sequence chain log); doubtful = true; zeroed = later.zeroed })
    (λ c. HoldsAll c blobs chain × (IsUnopened (0 ∷ base_pages blobs chain log) slots old.may_leave c
    ⊎ IsOpened (0 ∷ base_pages blobs chain log) (MayHaveBase slots blobs chain sequence log) old.may_leave c)) old new
