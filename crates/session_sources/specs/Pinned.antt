-- The source of what a pin sees: from when its seat is lent to when it is handed back.
use Rattle.std.specs.Prelude.{◌≡◌, ◌+◌, ◌-◌, ◌^◌, ◌<◌, length, min, None, IfSome, IsTrue}
use Rattle.afl_outside.specs.Disk.{Moment}
use Rattle.chunk_source.specs.Source.{SourceState}
use Rattle.plan_changes.specs.Databases.{Database}
use Rattle.store_ledger.specs.declared.pinned.Pinned.{Pinned}
use Rattle.store_ledger.specs.Ledger.{is_fault, is_noted, is_tried}
use Rattle.snapshot_manager.specs.Calls.{history_at}
use Rattle.snapshot_manager.specs.Standings.{Standing, BeganAs}
use Rattle.snapshot_manager.specs.declared.seat.Seat.{Seat}
use Rattle.snapshot_manager.specs.declared.shared.Shared.{Shared}
use Rattle.snapshot_manager.specs.Seats.{ledger_seen, read_count, seen, session_of, start, store_seen, HoldsPin, IsIdle, IsSameSeat, IsSeatOf}
use Rattle.session_sources.specs.declared.marks.Marks.{Marks}
use Rattle.session_sources.specs.declared.reading.Lent.{Lent}
use Rattle.session_sources.specs.declared.reading.Reading.{Reading}
use Rattle.session_sources.specs.Courses.{AddsAtMostFault}
use Rattle.session_sources.specs.Inner.Marking.{no_marks}
use Rattle.session_sources.specs.Stored.{numbers_at, schema_of, AreRowsAfter, BeginsDamage}

abbrev pub reading_of : {D : Type 0} → Shared D → Pinned → Seat D → Seat D → Marks → Reading D
reading_of shared pinned before seat marks =
    record { lent = record { shared = shared; seat = before; pinned = pinned }; seat = seat; marks = marks }

-- before the first call
abbrev pub unread : {D : Type 0} → Shared D → Pinned → Seat D → Reading D
unread shared pinned seat = reading_of shared pinned seat seat no_marks

-- the store as the seat had seen it when it was lent
abbrev pub store_lent : {D : Type 0} → (D → Moment) → Lent D → Standing D
store_lent moment lent = store_seen moment lent.shared lent.seat

-- THE SOURCE: the versions that the pin names, with the chunks that its place sees. It tells the rows of the database that the store began
-- as, at the pin's place
abbrev pub pinned_state : {D : Type 0} → (D → Moment) → Reading D → SourceState
pinned_state moment r = record {
  stored = schema_of r.lent.pinned.names;
  chunks = numbers_at (store_lent moment r.lent) r.lent.pinned.place;
  tells = AreRowsAfter moment (store_lent moment r.lent) (history_at (store_lent moment r.lent) r.lent.pinned.place);
  asked = r.marks.asked;
  damaged = r.marks.damaged;
  faults = r.marks.faults;
}

-- WHAT HOLDS OF A READING under a session's pin, from its beginning to its end
pub record HasRead {D : Type 0} (moment : D → Moment) (r : Reading D) : Type 0 where
  -- a seat of the store was lent, which held the pin
  pub lent : IsSeatOf r.lent.shared r.lent.seat
  pub lent_pin : HoldsPin moment r.lent.shared r.lent.seat r.lent.pinned
  -- it is idle, and still holds it
  pub seat : IsSeatOf r.lent.shared r.seat × IsIdle r.seat
  pub pin : HoldsPin moment r.lent.shared r.seat r.lent.pinned
  pub same : IsSameSeat r.lent.seat r.seat
  -- its session added nothing of its own, or the note of one fault
  pub adds : AddsAtMostFault (start moment r.lent.shared) (session_of r.lent.seat) (seen r.lent.seat) (seen r.seat)
  -- each chunk that was asked for was counted, up to the last value of a `u64`
  pub reads : read_count r.seat ≡ min (read_count r.lent.seat + length r.marks.asked) (2 ^ 64 - 1)
  -- a failure comes only with such a note, and no commit was tried
  pub faults : 0 < r.marks.faults → IsTrue (is_noted is_fault (ledger_seen moment r.lent.shared r.seat) (session_of r.lent.seat))
  pub tried : is_noted is_tried (ledger_seen moment r.lent.shared r.seat) (session_of r.lent.seat)
      ≡ is_noted is_tried (ledger_seen moment r.lent.shared r.lent.seat) (session_of r.lent.seat)
  -- a damaged page begins the payload of a chunk that the pin sees, and it was damaged as the file was opened. There is none where the store
  -- began as a database
  pub damaged : IfSome r.marks.damaged (BeginsDamage moment r.lent.pinned.names (store_lent moment r.lent) r.lent.pinned.place)
  pub whole : (db : Database) → BeganAs (moment (start moment r.lent.shared).opened.disk).state db → r.marks.damaged ≡ None
