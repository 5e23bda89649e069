-- How the store of a run ends.
use Rattle.std.specs.Prelude.{◌≡◌, ◌⊎◌, ℕ, false, List, [], ◌∷◌, ◌++◌, length, IfSome}
use Rattle.afl_outside.specs.Disk.{DiskGoesOn, Moment}
use Rattle.array_store.specs.Kept.{HasFailed}
use Rattle.array_store.specs.Starts.{start_of}
use Rattle.event_core.specs.declared.entry.Entry.TheVariants.{Reap}
use Rattle.event_core.specs.Legal.{IsOrdered}
use Rattle.plan_changes.specs.Databases.{Database}
use Rattle.run_opening.specs.declared.reports.notices.Notice.{Notice}
use Rattle.run_opening.specs.declared.reports.notices.Notice.TheVariants.{Memory}
use Rattle.store_ledger.specs.Ledger.{IsLedger, history, reap_comes, unused_pages}
use Rattle.store_state.specs.declared.state.event.Event.{Event}
use Rattle.store_state.specs.declared.state.event.Event.TheVariants.{Entered}
use Rattle.store_state.specs.Events.{events}
use Rattle.store_state.specs.Payloads.{HasPayloads, HasTold}
use Rattle.store_state.specs.Standings.{BeganAs, Standing, given_of}
use Rattle.store_state.specs.Inner.Keeping.{AreCounted}
use Rattle.run_opening.specs.declared.stores.closing.StoreRun.{StoreRun}
use Rattle.run_opening.specs.Held.{HoldsHistory}

-- at most a reap came
abbrev pub IsReap : List Event → Type 0
IsReap more = (more ≡ []) ⊎ (more ≡ Entered Reap ∷ [])

-- a store was reaped, if memory was there: then no page awaits a reap, or the history has no room for one
pub record IsReaped {D : Type 0} (notice : Notice) (old new : Standing D) : Type 0 where
  pub start : start_of new ≡ start_of old
  pub more : List Event
  pub reap : IsReap more
  pub grown : events new ≡ events old ++ more
  pub done : (notice ≡ Memory → ⊥) → reap_comes new.ledger ≡ false

-- A RUN ENDS WITH THIS STORE: its history is the store's, and its disk is the one that was opened, some calls later
pub record EndsWith {D S K : Type 0} (moment : D → Moment) (store : Standing D) (run : StoreRun D S K) : Type 0 where
  pub goes_on : DiskGoesOn (moment store.opened.disk).state (moment store.disk).state
  pub is_disk : run.disk ≡ store.disk
  pub is_history : run.history ≡ store.ledger.entries
  pub ledger : IsLedger store.ledger
  pub ordered : IsOrdered store.ledger.base (history store.ledger)
  -- there are no more notes of faults than the disk's count rose by, unless it stands at its last value
  pub counted : AreCounted (moment store.opened.disk).state.faults (moment store.disk).state.faults store.ledger.notes
  pub pages : run.free_pages ≡ length (unused_pages store.ledger)
  -- each page that nobody can name is free, or one more entry would pass the limit
  pub reaped : (run.notice ≡ Memory → ⊥) → reap_comes store.ledger ≡ false
  -- a change is in doubt only where a call of the disk failed
  pub doubt : IfSome store.doubt (λ _. HasFailed (moment store.opened.disk).state (moment store.disk).state)
  pub cells : (db : Database) → BeganAs (moment store.opened.disk).state db → HoldsHistory moment store db
  -- whatever the file stood for as it was opened, each image has each payload, whole or with the bytes of then
  pub payloads : (file : List ℕ) → HasTold (moment store.opened.disk).state file → (image : List ℕ) → (moment store.disk).may_leave image
      → HasPayloads store.ledger.base (given_of store) file (history store.ledger) image

-- a store was reaped, if memory was there, and closed
pub record IsClosed {D S K : Type 0} (moment : D → Moment) (old new : Standing D) (run : StoreRun D S K) : Type 0 where
  pub start : start_of new ≡ start_of old
  pub more : List Event
  pub reap : IsReap more
  pub grown : events new ≡ events old ++ more
  pub ends : EndsWith moment new run
