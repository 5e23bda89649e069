-- What holds of courses, and of the versions of sources.
use Rattle.std.specs.Prelude.{◌≡◌, ℕ, Bool, List, [], ◌++◌, IsTrue}
use Rattle.std.specs.List.{list_all}
use Rattle.afl_outside.specs.Disk.{Moment}
use Rattle.chunk_source.specs.Source.{Reads}
use Rattle.logical_plan.specs.declared.parts.Leaf.{Leaf}
use Rattle.store_ledger.specs.declared.note.NoteKind.{NoteKind}
use Rattle.store_ledger.specs.declared.pinned.Pinned.{Pinned}
use Rattle.store_ledger.specs.Ledger.{LedgerState, is_noted, IsOpenPin}
use Rattle.snapshot_manager.specs.Event.{Event}
use Rattle.snapshot_manager.specs.Calls.{IsLeafOf}
use Rattle.snapshot_manager.specs.Start.{Start}
use Rattle.snapshot_manager.specs.Told.{ledger_of}
use Rattle.snapshot_manager.specs.Turns.{leaves_notes_of, leaves_pin_of, own_events, Adds}
use Rattle.session_sources.specs.declared.holding.Holding.{Holding}
use Rattle.session_sources.specs.declared.reading.Reading.{Reading}
use Rattle.session_sources.specs.Courses.{AddsOwn, IsFaultAtMost}
use Rattle.session_sources.specs.Held.{held_state, names_now, store_then}
use Rattle.session_sources.specs.Pinned.{pinned_state}

-- a turn is a course, whose own events are those of the session among what it added
abbrev pub TurnsAreCourses : Type 0
TurnsAreCourses = (session : ℕ) (own old new : List Event) → Adds session own old new → AddsOwn session (own_events session own) old new

-- so is what others add alone, and no turn at all
abbrev pub CoursesMayBeEmpty : Type 0
CoursesMayBeEmpty = (session : ℕ) (old : List Event) → AddsOwn session [] old old

-- two in a row are one
abbrev pub CoursesJoin : Type 0
CoursesJoin = (session : ℕ) (first later old between new : List Event) → AddsOwn session first old between → AddsOwn session later between new →
    AddsOwn session (first ++ later) old new

-- a course adds its own events to those of the session
abbrev pub CoursesAddOwn : Type 0
CoursesAddOwn = (session : ℕ) (own old new : List Event) → AddsOwn session own old new → own_events session new ≡ own_events session old ++ own

-- the note of its fault is its own
abbrev pub FaultsAreOwn : Type 0
FaultsAreOwn = (ledger : LedgerState) (session : ℕ) (own : List Event) → IsFaultAtMost ledger session own → own_events session own ≡ own

-- an open pin of the session stays so over a course without a pin or an unpin of its own
abbrev pub CoursesKeepPins : Type 0 → Type 0
CoursesKeepPins D = (start : Start D) (own old new : List Event) (pinned : Pinned) → AddsOwn pinned.session own old new →
    IsTrue (list_all (leaves_pin_of pinned.session) own) → IsOpenPin (ledger_of start old) pinned → IsOpenPin (ledger_of start new) pinned

-- whether a note of some kinds stands under its open pin stays so over one without such a note either
abbrev pub CoursesKeepNotes : Type 0 → Type 0
CoursesKeepNotes D = (start : Start D) (kinds : NoteKind → Bool) (session : ℕ) (own old new : List Event) → AddsOwn session own old new →
    IsTrue (list_all (leaves_notes_of kinds session) own) → is_noted kinds (ledger_of start new) session ≡ is_noted kinds (ledger_of start old) session

-- each leaf of the names is one of the source's versions, or of version 0
abbrev pub PinnedSourcesHoldVersions : {D : Type 0} → (D → Moment) → Type 0
PinnedSourcesHoldVersions {D} moment = (r : Reading D) (leaf : Leaf) → IsLeafOf r.lent.pinned.names leaf → Reads (pinned_state moment r) leaf

abbrev pub HeldSourcesHoldVersions : {D : Type 0} → (D → Moment) → Type 0
HeldSourcesHoldVersions {D} moment = (h : Holding D) (leaf : Leaf) → IsLeafOf (names_now (store_then moment h).ledger) leaf → Reads (held_state moment h) leaf
