-- What is asked of a file before a commit is written to it, and what came of its writes.
use Rattle.std.specs.Prelude.{◌≡◌, ◌<◌, ◌↔◌, ℕ, Bool, List, [], ◌∷◌, ◌++◌, Option, None, Some, Result, Ok, Err, OnOk, IfErr, IsTrue}
use Rattle.std.specs.List.{AllByRecursion}
use Rattle.afl_outside.specs.Counts.{Rose}
use Rattle.afl_outside.specs.Disk.{DiskGoesOn, FailsWithCause, Moment}
use Rattle.page_file.specs.Written.{MayWrite}
use Rattle.page_chain.specs.Standing.{IsTarget}
use Rattle.page_chain.specs.declared.slots.slots.slots.Slots.{Slots}
use Rattle.page_chain.specs.declared.slots.slots.slots.Target.TheVariants as targets
use Rattle.page_file.specs.declared.commits.placed.Placed.{Placed}
use Rattle.page_file.specs.declared.commits.stopped.Stopped.{Stopped}
use Rattle.page_file.specs.Commits.{base_pages, commit_pages, IsBlobSized, IsChainSized}
use Rattle.page_file.specs.Moments.{PassesBy, StaysKnown}
use Rattle.prepared_commits.specs.declared.commits.prepared.NewBase.{NewBase}
use Rattle.store_sealing.specs.Moves.{IsDone, NewIn, StopsAt, own_pages, slot_page}

-- of a record
pub record MayBeRecord (slots : Slots) (blobs : List Placed) (chain : Placed) : Type 0 where
  pub target : slots.target ≡ targets.Record
  pub there : IsTarget slots
  pub free : MayWrite (commit_pages blobs chain) slots
  pub sized : AllByRecursion IsBlobSized blobs
  pub chained : IsChainSized chain

-- of a new base
pub record MayBeBase (slots : Slots) (blobs : List Placed) (chain : Placed) (base : NewBase) : Type 0 where
  pub target : slots.target ≡ targets.Root
  pub free : MayWrite (base_pages blobs chain base.log) slots
  pub sized : AllByRecursion IsBlobSized blobs
  pub chained : IsChainSized chain
  pub newer : slots.current.root.sequence < base.sequence

abbrev pub MayBeWritten : Option NewBase → Slots → List Placed → Placed → Type 0
MayBeWritten None slots blobs chain = MayBeRecord slots blobs chain
MayBeWritten (Some base) slots blobs chain = MayBeBase slots blobs chain base

-- What came of the writes: they were done, or stopped at a stage, and the count of faults rose or didn't
pub record CameTo (base : Option NewBase) (slots later : Slots) (blobs : List Placed) (chain : Placed) (old new : Moment)
    (end : Result (Unit {0}) Stopped) (rose : Bool) : Type 0 where
  pub done : OnOk end (IsDone base slots later blobs chain old new)
  pub stopped : IfErr end (λ stage. StopsAt base stage slots later blobs chain old new)
  pub known : StaysKnown slots later old new
  pub during : PassesBy (slot_page base slots) (own_pages base blobs chain) slots (NewIn base slots blobs chain) old new
  pub same : DiskGoesOn old.state new.state
  pub cause : FailsWithCause end old new
  pub count : IsTrue rose ↔ Rose old.state.faults new.state.faults

-- the moments at which commits were acknowledged, with one more where the writes were done
abbrev pub acked_after : Result (Unit {0}) Stopped → List ℕ → ℕ → List ℕ
acked_after (Ok u) acked moment = acked ++ moment ∷ []
acked_after (Err stage) acked moment = acked
