-- What the writes of a prepared commit have done.
use Rattle.std.specs.Prelude.{ℕ, ◌⊎◌, List, [], ◌∷◌, Option, None, Some}
use Rattle.afl_outside.specs.Disk.{DiskGoesOn, Moment}
use Rattle.page_chain.specs.Inner.Runs.{Over}
use Rattle.page_chain.specs.declared.slots.slots.slots.Slots.{Slots}
use Rattle.plan_changes.specs.Databases.{Database}
use Rattle.event_core.specs.Cells.{at}
use Rattle.page_file.specs.declared.commits.placed.Placed.{Placed}
use Rattle.page_file.specs.declared.commits.stopped.Stopped.{Stopped}
use Rattle.page_file.specs.Commits.{base_pages, commit_pages}
use Rattle.page_file.specs.Moments.{AddsRecord, HasRecord, MakesBase, MayHaveBase, PassesBy, StaysKnown, StopsBase, StopsRecord}
use Rattle.store_ledger.specs.Ledger.{history}
use Rattle.prepared_commits.specs.Standings.{Standing, StandsFor}
use Rattle.prepared_commits.specs.Keeping.{Keeping}
use Rattle.prepared_commits.specs.declared.commits.prepared.NewBase.{NewBase}
use Rattle.prepared_commits.specs.declared.commits.prepared.Prepared.{Prepared}

-- the page of its slot: the log page, or page 0
abbrev pub slot_page : Option NewBase → Slots → ℕ
slot_page None slots = slots.current.root.log
slot_page (Some base) slots = 0

-- its own pages
abbrev pub own_pages : Option NewBase → List Placed → Placed → List ℕ
own_pages None blobs chain = commit_pages blobs chain
own_pages (Some base) blobs chain = base_pages blobs chain base.log

-- the file opens with what is new, and has its bytes
abbrev pub NewIn : Option NewBase → Slots → List Placed → Placed → List ℕ → Type 0
NewIn None slots blobs chain = HasRecord slots blobs chain
NewIn (Some base) slots blobs chain = MayHaveBase slots blobs chain base.sequence base.log

-- at whichever stage it ended
pub record Writes (slots later : Slots) (p : Prepared) (old new : Moment) : Type 0 where
  pub known : StaysKnown slots later old new
  pub during : PassesBy (slot_page p.base slots) (own_pages p.base p.blobs p.chain) slots (NewIn p.base slots p.blobs p.chain) old new
  pub same : DiskGoesOn old.state new.state

-- it was done
abbrev pub IsDone : Option NewBase → Slots → Slots → List Placed → Placed → Moment → Moment → Type 0
IsDone None slots later blobs chain old new = AddsRecord slots later blobs chain old new
IsDone (Some base) slots later blobs chain old new = MakesBase slots later blobs chain base.sequence base.log old new

-- it stopped at a stage
abbrev pub StopsAt : Option NewBase → Stopped → Slots → Slots → List Placed → Placed → Moment → Moment → Type 0
StopsAt None stage slots later blobs chain old new = StopsRecord stage slots later blobs chain old new
StopsAt (Some base) stage slots later blobs chain old new = StopsBase stage slots later blobs chain base.sequence base.log old new

-- AN IMAGE AT SOME MOMENT OF A COMMIT: while an earlier change may be in doubt, none of the commit's own pages is written; from then on the
-- image stands for the database before the change or after it, and no other pages are written than its own and the slot's
abbrev pub MayLeave : {D : Type 0} → Database → Standing D → Keeping → Prepared → (List ℕ → Type 0) → List ℕ → Type 0
MayLeave db s k p before image = (StandsFor (at db (history s.ledger)) s.doubt image × Over (slot_page p.base k.slots ∷ []) before image)
    ⊎ (StandsFor (at db (history s.ledger)) (Some p.commit.change) image
    × Over (slot_page p.base k.slots ∷ own_pages p.base p.blobs p.chain) before image)
