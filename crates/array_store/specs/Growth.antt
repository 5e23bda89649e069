-- What a call adds to the events of a store.
use Rattle.std.specs.Prelude.{◌≡◌, ℕ, Bool, true, false, if◌then◌else◌, List, [], ◌∷◌, ◌++◌, length}
use Rattle.afl_outside.specs.Counts.{Rose}
use Rattle.afl_outside.specs.Disk.{Moment}
use Rattle.event_core.specs.declared.entry.Entry.{Entry}
use Rattle.event_core.specs.declared.entry.Entry.TheVariants.{Pin, Unpin, Commit, Reap}
use Rattle.event_core.specs.Bases.{commits}
use Rattle.plan_changes.specs.declared.change.Change.{Change}
use Rattle.store_ledger.specs.declared.note.NoteKind.TheVariants.{Fault}
use Rattle.store_ledger.specs.Ledger.{LedgerState, AreWithin, attempt, history, is_fault, is_noted, note_now}
use Rattle.store_opening.specs.Event.{Event}
use Rattle.store_opening.specs.Event.TheVariants.{Entered, Noted}
use Rattle.store_opening.specs.Events.{events}
use Rattle.store_opening.specs.Standings.{Standing}
use Rattle.array_store.specs.Starts.{start_of}

-- the store has these events more, behind all others, and its start is the same
pub record AddsEvents {D : Type 0} (more : List Event) (old new : Standing D) : Type 0 where
  pub start : start_of new ≡ start_of old
  pub grown : events new ≡ events old ++ more

-- no note comes behind more entries than there are, and each commit has its moment and its directory: this holds of each store
pub record IsCounted {D : Type 0} (s : Standing D) : Type 0 where
  pub within : AreWithin (length s.ledger.entries) s.ledger.notes
  pub acked : length s.acked ≡ commits (history s.ledger)
  pub made : length s.made ≡ commits (history s.ledger)

-- whether an entry is no commit
abbrev pub is_plain : Entry → Bool
is_plain (Pin session) = true
is_plain (Unpin session) = true
is_plain (Commit session change used) = false
is_plain Reap = true

-- the note of a fault under a session's pin, if none was made there yet
abbrev pub fault_events : LedgerState → ℕ → List Event
fault_events ledger session = if is_noted is_fault ledger session then [] else Noted (note_now Fault ledger session) ∷ []

-- the note that a session tries a commit, and a reap behind it, if one came
abbrev pub tried_events : Bool → LedgerState → ℕ → Change → List Event
tried_events comes ledger session change = Noted (note_now (attempt change) ledger session) ∷ (if comes then Entered Reap ∷ [] else [])

-- where the disk's count of faults rose this note is added, and else nothing
pub record AddsFault {D : Type 0} (moment : D → Moment) (session : ℕ) (old new : Standing D) : Type 0 where
  pub rose : Rose (moment old.disk).state.faults (moment new.disk).state.faults → AddsEvents (fault_events old.ledger session) old new
  pub still : ¬ Rose (moment old.disk).state.faults (moment new.disk).state.faults → AddsEvents [] old new
