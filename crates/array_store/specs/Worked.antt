-- A store that was opened; what two sessions did to it; and what the pin of one of them then sees.
use Rattle.std.specs.Prelude.{◌≡◌, true, false, List, [], ◌∷◌, ◌++◌, codes}
use Rattle.std.specs.List.{list_all}
use Rattle.logical_plan.specs.declared.parts.Leaf.{Leaf}
use Rattle.plan_changes.specs.declared.change.Change.TheVariants.{Remove}
use Rattle.file_meaning.specs.Inner.FileExample.{schema}
use Rattle.event_core.specs.declared.entry.Entry.TheVariants.{Pin, Unpin, Commit}
use Rattle.event_core.specs.Allowed.{is_pinned}
use Rattle.store_ledger.specs.declared.pinned.Pinned.{Pinned}
use Rattle.store_ledger.specs.Ledger.{IsOpenPin, attempt, history, is_noted, is_tried}
use Rattle.prepared_commits.specs.Event.{Event}
use Rattle.prepared_commits.specs.Event.TheVariants.{Entered, Acknowledged, Noted}
use Rattle.prepared_commits.specs.Calls.{chunks_at}
use Rattle.prepared_commits.specs.Worked.{worked_base, worked_directory, worked_slots, worked_store}
use Rattle.array_store.specs.declared.store.start.Start.{Start}
use Rattle.array_store.specs.Starts.{start_of}
use Rattle.array_store.specs.Told.{is_sealed, ledger_of, told, IsTold}
use Rattle.array_store.specs.Tries.{MakesCommit}
use Rattle.array_store.specs.Turns.{found_before, own_events, Adds}

-- the array A, of which version 1 has one chunk
abbrev pub worked_start : Start (Unit {0})
worked_start = record {
  opened = record { disk = tt; slots = worked_slots };
  first = record { name = codes "A"; version = 1; directory = worked_directory } ∷ [];
  base = worked_base;
  limit = 100;
}

-- session 0 has pinned
abbrev pub worked_seen : List Event
worked_seen = Entered (Pin 0) ∷ []

abbrev pub worked_pinned : Pinned
worked_pinned = record { session = 0; place = 0; names = worked_base.names }

-- session 1 pins too, and removes A
abbrev pub worked_later : Pinned
worked_later = record { session = 1; place = 1; names = worked_base.names }

abbrev pub worked_before : List Event
worked_before = worked_seen ++ Entered (Pin 1) ∷ []

abbrev pub worked_removal : List Event
worked_removal =
    Noted (record { session = 1; kind = attempt (Remove (codes "A")); after = 2 })
    ∷ Acknowledged (Commit 1 (Remove (codes "A")) (record { version = []; catalogue = 5 ∷ 6 ∷ [] })) 7 (record { entries = [] })
    ∷ []

abbrev pub worked_others : List Event
worked_others = Entered (Pin 1) ∷ (worked_removal ++ Entered (Unpin 1) ∷ [])

abbrev pub worked_leaf : Leaf
worked_leaf = record { name = codes "A"; version = 1; schema = schema }

-- session 0 unpins
abbrev pub worked_own : List Event
worked_own = Entered (Unpin 0) ∷ []

-- each fact computes
pub record IsWorked : Type 0 where
  pub began : start_of worked_store ≡ worked_start
  pub first_told : IsTold worked_start [] worked_store
  pub sealed : list_all is_sealed (worked_seen ++ worked_others) ≡ true
  -- the pin is open, also after what the other session did
  pub open_pin : IsOpenPin (ledger_of worked_start worked_seen) worked_pinned
  pub open_later : IsOpenPin (ledger_of worked_start (worked_seen ++ worked_others)) worked_pinned
  -- under it no commit was tried, as one was under the other session's
  pub untried : is_noted is_tried (ledger_of worked_start (worked_seen ++ worked_others)) 0 ≡ false
  -- it still sees the chunk, which can't be named now
  pub pinned_chunks : chunks_at (told worked_start (worked_seen ++ worked_others)) 0 worked_leaf ≡ record { items = 0 ∷ [] } ∷ []
  pub chunks_now : chunks_at (told worked_start (worked_seen ++ worked_others)) 4 worked_leaf ≡ []
  -- the turn that removed A was tried, for the removal was fresh, and made its commit
  pub made : MakesCommit worked_start worked_later (Remove (codes "A")) worked_before (worked_before ++ worked_removal)
  -- a turn of session 0 finds all that, and adds its unpin
  pub turn : Adds 0 worked_own worked_seen ((worked_seen ++ worked_others) ++ worked_own)
  pub found : found_before worked_own ((worked_seen ++ worked_others) ++ worked_own) ≡ worked_seen ++ worked_others
  pub own : own_events 0 ((worked_seen ++ worked_others) ++ worked_own) ≡ worked_seen ++ worked_own
  pub unpinned : is_pinned 0 (history (ledger_of worked_start ((worked_seen ++ worked_others) ++ worked_own))) ≡ false
