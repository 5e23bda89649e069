-- The source of what a store has in a turn that is held: from when the turn is lent to when it is handed back.
use Rattle.std.specs.Prelude.{◌≡◌, ℕ, ◌<◌, ◌++◌, List, length, None, IfSome, IsTrue}
use Rattle.afl_outside.specs.Disk.{Moment}
use Rattle.chunk_source.specs.Source.{SourceState}
use Rattle.logical_plan.specs.declared.names.Names.{Names}
use Rattle.plan_changes.specs.Databases.{Database}
use Rattle.event_core.specs.Allowed.{is_pinned}
use Rattle.event_core.specs.History.{names_at}
use Rattle.turn_lock.specs.Owners.{ExtendsByOwn}
use Rattle.turn_lock.specs.declared.turns.seat.Turn.{Turn}
use Rattle.store_ledger.specs.Ledger.{LedgerState, history, is_fault, is_noted, is_tried}
use Rattle.snapshot_manager.specs.Event.{Event}
use Rattle.snapshot_manager.specs.StoreParts.{StoreParts}
use Rattle.snapshot_manager.specs.At.{standing}
use Rattle.snapshot_manager.specs.Events.{events, owner_of}
use Rattle.snapshot_manager.specs.Standings.{Standing, BeganAs}
use Rattle.snapshot_manager.specs.Starts.{start_of}
use Rattle.snapshot_manager.specs.declared.seat.Seat.{Seat}
use Rattle.snapshot_manager.specs.Seats.{store_of, HasTurn}
use Rattle.session_sources.specs.declared.holding.Holding.{Holding}
use Rattle.session_sources.specs.declared.marks.Marks.{Marks}
use Rattle.session_sources.specs.Courses.{IsFaultAtMost}
use Rattle.session_sources.specs.Inner.Marking.{no_marks}
use Rattle.session_sources.specs.Stored.{numbers_at, schema_of, AreRowsAfter, BeginsDamage}

abbrev pub holding_of : {D : Type 0} → ℕ → Turn (StoreParts D) → Turn (StoreParts D) → Marks → Holding D
holding_of session before turn marks = record { lent = record { turn = before; session = session }; turn = turn; marks = marks }

-- before the first call
abbrev pub unheld : {D : Type 0} → ℕ → Turn (StoreParts D) → Holding D
unheld session turn = holding_of session turn turn no_marks

-- the store as the turn was lent, and as it is now
abbrev pub store_then : {D : Type 0} → (D → Moment) → Holding D → Standing D
store_then moment h = standing moment (store_of h.lent.turn)

abbrev pub store_now : {D : Type 0} → (D → Moment) → Holding D → Standing D
store_now moment h = standing moment (store_of h.turn)

-- what can be named in a store
abbrev pub names_now : LedgerState → Names
names_now ledger = names_at ledger.base (history ledger)

-- THE SOURCE: the versions that can be named, with their chunks. It tells the rows of the database that the store began as, after all its
-- commits
abbrev pub held_state : {D : Type 0} → (D → Moment) → Holding D → SourceState
held_state moment h = record {
  stored = schema_of (names_now (store_then moment h).ledger);
  chunks = numbers_at (store_then moment h) (length (store_then moment h).ledger.entries);
  tells = AreRowsAfter moment (store_then moment h) (history (store_then moment h).ledger);
  asked = h.marks.asked;
  damaged = h.marks.damaged;
  faults = h.marks.faults;
}

-- behind the events that were there came the note of one fault of a session at most
pub record GrowsByFault (ledger : LedgerState) (session : ℕ) (old new : List Event) : Type 0 where
  pub own : List Event
  pub grown : new ≡ old ++ own
  pub note : IsFaultAtMost ledger session own

-- WHAT HOLDS OF A READING in a turn that a session holds, from its beginning to its end
pub record HasHeld {D : Type 0} (moment : D → Moment) (h : Holding D) : Type 0 where
  -- the session is pinned, and the turn is still that of the seat whose it was
  pub pinned : IsTrue (is_pinned h.lent.session (history (store_then moment h).ledger))
  pub turn : (seat : Seat D) → HasTurn seat h.lent.turn → HasTurn seat h.turn
  -- nothing of the store but its disk and its notes has changed
  pub same : store_now moment h ≡ record (store_then moment h) {
    disk = (store_now moment h).disk;
    ledger = record (store_then moment h).ledger { notes = (store_now moment h).ledger.notes };
  }
  pub start : start_of (store_now moment h) ≡ start_of (store_then moment h)
  -- one note of a fault came, or none, as a turn may add it
  pub adds : GrowsByFault (store_now moment h).ledger h.lent.session (events (store_then moment h)) (events (store_now moment h))
  pub extends : ExtendsByOwn owner_of h.lent.session (events (store_then moment h)) (events (store_now moment h))
  -- a failure comes only with such a note, and no commit was tried
  pub faults : 0 < h.marks.faults → IsTrue (is_noted is_fault (store_now moment h).ledger h.lent.session)
  pub tried : is_noted is_tried (store_now moment h).ledger h.lent.session ≡ is_noted is_tried (store_then moment h).ledger h.lent.session
  -- a damaged page begins the payload of a chunk that the store has, and it was damaged as the file was opened. There is none where the store
  -- began as a database
  pub damaged : IfSome h.marks.damaged
      (BeginsDamage moment (names_now (store_then moment h).ledger) (store_then moment h) (length (store_then moment h).ledger.entries))
  pub whole : (db : Database) → BeganAs (moment (store_then moment h).opened.disk).state db → h.marks.damaged ≡ None
