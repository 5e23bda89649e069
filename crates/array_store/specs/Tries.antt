-- Commits that are tried in a turn.
use Rattle.std.specs.Prelude.{◌≡◌, ℕ, ◌+◌, Bool, List, [], ◌∷◌, ◌++◌, drop, IsTrue}
use Rattle.chunk_map.specs.declared.directory.Directory.{Directory}
use Rattle.plan_changes.specs.declared.change.Change.{Change}
use Rattle.event_core.specs.declared.entry.Entry.TheVariants.{Commit}
use Rattle.event_core.specs.declared.entry.Used.{Used}
use Rattle.event_core.specs.History.{names_at}
use Rattle.array_store.specs.Fresh.{is_fresh}
use Rattle.store_ledger.specs.declared.pinned.Pinned.{Pinned}
use Rattle.store_ledger.specs.Ledger.{LedgerState, history}
use Rattle.prepared_commits.specs.Event.{Event}
use Rattle.prepared_commits.specs.Event.TheVariants.{Acknowledged}
use Rattle.array_store.specs.declared.store.start.Start.{Start}
use Rattle.array_store.specs.Growth.{tried_events}
use Rattle.array_store.specs.Tried.{IsFaultOrNone}
use Rattle.array_store.specs.Told.{ledger_of}
use Rattle.array_store.specs.Turns.{found_before, Adds}

-- whether a change that was computed under a pin may be committed, as a ledger tells
abbrev pub is_fresh_since : Pinned → Change → LedgerState → Bool
is_fresh_since pinned change ledger =
    is_fresh (drop (pinned.place + 1) ledger.entries) (names_at ledger.base (history ledger)) pinned.names change

-- these are the events of a commit that was tried behind what was found: the note that it was tried, and a reap or none; then the commit
-- itself, or nothing; and then the note of a fault, or none
pub record AreOfTry {D : Type 0} (start : Start D) (session : ℕ) (change : Change) (commit found own new : List Event) : Type 0 where
  pub comes : Bool
  pub faults : List Event
  pub fault : IsFaultOrNone (ledger_of start new) session faults
  pub is : own ≡ tried_events comes (ledger_of start found) session change ++ (commit ++ faults)

-- such events came behind all that was found
pub record TriesHere {D : Type 0} (start : Start D) (session : ℕ) (change : Change) (commit found new : List Event) : Type 0 where
  pub own : List Event
  pub grown : new ≡ found ++ own
  pub tried : AreOfTry start session change commit found own new

-- A TURN IN WHICH A COMMIT WAS TRIED, for its change was fresh over what was found
pub record TriesCommit {D : Type 0} (start : Start D) (pinned : Pinned) (change : Change) (commit old new : List Event) : Type 0 where
  pub own : List Event
  pub adds : Adds pinned.session own old new
  pub fresh : IsTrue (is_fresh_since pinned change (ledger_of start (found_before own new)))
  pub tried : AreOfTry start pinned.session change commit (found_before own new) own new

-- ONE IN WHICH IT WAS MADE: at some moment it was acknowledged, and this directory is that of its version
pub record MakesCommit {D : Type 0} (start : Start D) (pinned : Pinned) (change : Change) (old new : List Event) : Type 0 where
  pub used : Used
  pub moment : ℕ
  pub directory : Directory
  pub tries : TriesCommit start pinned change (Acknowledged (Commit pinned.session change used) moment directory ∷ []) old new

pub record MakesHere {D : Type 0} (start : Start D) (session : ℕ) (change : Change) (found new : List Event) : Type 0 where
  pub used : Used
  pub moment : ℕ
  pub directory : Directory
  pub tries : TriesHere start session change (Acknowledged (Commit session change used) moment directory ∷ []) found new
