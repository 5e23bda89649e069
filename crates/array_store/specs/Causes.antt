-- What a commit needs, and why a change isn't committed.
use Rattle.std.specs.Prelude.{◌≡◌, ◌≤◌, ◌<◌, ◌-◌, ◌^◌, ℕ, not, List, length, IsTrue}
use Rattle.std.specs.List.{filter}
use Rattle.afl_outside.specs.Counts.{Rose}
use Rattle.afl_outside.specs.Disk.{Moment}
use Rattle.plan_changes.specs.declared.change.Change.{Change}
use Rattle.plan_changes.specs.Databases.{Database}
use Rattle.version_reaper.specs.PageSets.{pages_below}
use Rattle.event_core.specs.declared.state.Core.{Core}
use Rattle.event_core.specs.Bases.{sequence_at}
use Rattle.event_core.specs.Cells.{at}
use Rattle.event_core.specs.History.{History}
use Rattle.event_core.specs.Pages.{is_live}
use Rattle.commit_pages.specs.Costs.{cost_from}
use Rattle.store_ledger.specs.Ledger.{history, is_fault, is_noted}
use Rattle.prepared_commits.specs.Standings.{Standing, BeganAs, base_of}
use Rattle.prepared_commits.specs.declared.commits.fault.PrepareFault.{PrepareFault}
use Rattle.prepared_commits.specs.declared.commits.fault.PrepareFault.TheVariants as refusals
use Rattle.store_sealing.specs.Parts.{IsFull}
use Rattle.array_store.specs.declared.told.commits.fault.CommitFault.{CommitFault}
use Rattle.array_store.specs.declared.told.commits.fault.CommitFault.TheVariants.{SequenceEnd, Full, Disk, Memory}

-- so many pages are needed by a commit of a change behind a history: what it costs over the database, where the file began as one
abbrev pub IsNeeded : {D : Type 0} → (D → Moment) → Standing D → History → Change → ℕ → Type 0
IsNeeded moment s h change count = (db : Database) → BeganAs (moment s.opened.disk).state db → count ≡ cost_from (base_of s).records (at db h) h change

-- the pages from 1 on that nobody can name after a history
abbrev pub unused_after : Core → History → List ℕ
unused_after base h = filter (λ page. not (is_live base h page)) (pages_below base.limit)

-- it needs no more than those
pub record FitsAfter {D : Type 0} (moment : D → Moment) (s : Standing D) (h : History) (change : Change) : Type 0 where
  pub count : ℕ
  pub needed : IsNeeded moment s h change count
  pub fits : count ≤ length (unused_after s.ledger.base h)

-- it needs more than those that nobody can name now; both numbers are told
pub record IsFullNow {D : Type 0} (moment : D → Moment) (s : Standing D) (change : Change) (needed free : ℕ) : Type 0 where
  pub count : ℕ
  pub costs : IsNeeded moment s (history s.ledger) change count
  pub full : IsFull count needed free s.ledger

-- WHY A CHANGE ISN'T COMMITTED, where the place is the number of entries: the database has the last sequence number; it hasn't, and the
-- commit needs too many pages; neither is so, the disk failed, and a note of it stands under the session's pin; or memory was short
abbrev pub IsUncommitted : {D : Type 0} → (D → Moment) → ℕ → Change → Standing D → CommitFault → Type 0
IsUncommitted moment session change s (SequenceEnd place) =
    (place ≡ length s.ledger.entries) × (2 ^ 64 - 1 ≤ sequence_at (base_of s) (history s.ledger))
IsUncommitted moment session change s (Full needed free place) =
    (place ≡ length s.ledger.entries) × (sequence_at (base_of s) (history s.ledger) < 2 ^ 64 - 1) × IsFullNow moment s change needed free
IsUncommitted moment session change s (Disk place) =
    (place ≡ length s.ledger.entries) × IsTrue (is_noted is_fault s.ledger session)
    × (sequence_at (base_of s) (history s.ledger) < 2 ^ 64 - 1) × FitsAfter moment s (history s.ledger) change
IsUncommitted moment session change s Memory = Unit {0}

-- what is told where a commit wasn't prepared
abbrev pub refused_at : ℕ → PrepareFault → CommitFault
refused_at place refusals.SequenceEnd = SequenceEnd place
refused_at place (refusals.Full needed free) = Full needed free place
refused_at place refusals.Memory = Memory

-- and where it wasn't sealed: the disk is told only where its count rose
abbrev pub IsStoppedSince : ℕ → ℕ → ℕ → CommitFault → Type 0
IsStoppedSince before now entries (SequenceEnd place) = ⊥
IsStoppedSince before now entries (Full needed free place) = ⊥
IsStoppedSince before now entries (Disk place) = (place ≡ entries) × Rose before now
IsStoppedSince before now entries Memory = Unit {0}
