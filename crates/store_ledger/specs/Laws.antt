-- What holds of ledgers.
use Rattle.std.specs.Prelude.{◌≡◌, ◌+◌, ℕ, List, [], ◌∷◌, ◌++◌, length, reverse, Bool, not, ◌&&◌, nat_eq, false, Some, IsTrue}
use Rattle.std.specs.List.{list_all}
use Rattle.store_versions.specs.Change.{Change}
use Rattle.store_versions.specs.Entry.{Entry}
use Rattle.store_versions.specs.Entry.TheVariants.{Pin, Unpin}
use Rattle.event_core.specs.Allowed.{is_allowed}
use Rattle.store_versions.specs.History.{History, leaves_pin, pin_before}
use Rattle.store_ledger.specs.declared.note.Note.{Note}
use Rattle.store_ledger.specs.declared.note.NoteKind.{NoteKind}
use Rattle.store_ledger.specs.declared.pinned.Pinned.{Pinned}
use Rattle.store_ledger.specs.Ledger.{LedgerState, with_entries, with_notes, AreWithin, has_note, history, IsLedger, reserved}
use Rattle.store_ledger.specs.Ledger.{reserved_by, IsOpenPin, entered, noted, events, attempt, is_noted, is_tried, note_now}

-- a pin reserves three entries more than were reserved
abbrev pub PinsReserveThree : Type 0
PinsReserveThree = (ledger : LedgerState) (session : ℕ) → AreWithin (length ledger.entries) ledger.notes →
    reserved (with_entries (Pin session ∷ []) ledger) ≡ reserved ledger + 3

-- an unpin gives back what its pin had reserved: three entries, or one where a commit was tried under it
abbrev pub UnpinsGiveBack : Type 0
UnpinsGiveBack = (ledger : LedgerState) (session : ℕ) (before : History) → IsTrue (is_allowed ledger.base (history ledger)) →
    pin_before session (history ledger) ≡ Some before →
    reserved ledger ≡ reserved (with_entries (Unpin session ∷ []) ledger) + reserved_by ledger.notes (record { session = session; before = before })

-- the first such note under a pin gives back two of its three entries
abbrev pub TriedGivesTwoBack : Type 0
TriedGivesTwoBack = (ledger : LedgerState) (session : ℕ) (change : Change) (before : History) → IsTrue (is_allowed ledger.base (history ledger)) →
    pin_before session (history ledger) ≡ Some before →
    has_note is_tried ledger.notes (record { session = session; before = before }) ≡ false →
    reserved ledger ≡ reserved (with_notes (note_now (attempt change) ledger session ∷ []) ledger) + 2

-- an open pin is one after more entries, if none of them is a pin or an unpin of its session, and after more notes
abbrev pub OpenPinsOutlast : Type 0
OpenPinsOutlast = (ledger : LedgerState) (pinned : Pinned) (entries : List Entry) (notes : List Note) →
    IsTrue (list_all (leaves_pin pinned.session) (reverse entries)) →
    IsOpenPin ledger pinned → IsOpenPin (with_notes notes (with_entries entries ledger)) pinned

-- Whether a note of some kinds stands under a session's open pin stays so after more entries, if none of them is a pin or an unpin of the
-- session, and after more notes, if none of them is one of these kinds by the session
abbrev pub NotesOutlast : Type 0
NotesOutlast = (ledger : LedgerState) (session : ℕ) (kinds : NoteKind → Bool) (entries : List Entry) (notes : List Note) →
    IsTrue (list_all (leaves_pin session) (reverse entries)) →
    IsTrue (list_all (λ note. not (nat_eq note.session session && kinds note.kind)) notes) →
    is_noted kinds (with_notes notes (with_entries entries ledger)) session ≡ is_noted kinds ledger session

-- one more entry is the last event
abbrev pub EventsGrowByEntries : Type 0
EventsGrowByEntries = (ledger : LedgerState) (entry : Entry) → AreWithin (length ledger.entries) ledger.notes →
    events (with_entries (entry ∷ []) ledger) ≡ events ledger ++ entered entry ∷ []

-- one more note, behind all entries, is the last event
abbrev pub EventsGrowByNotes : Type 0
EventsGrowByNotes = (ledger : LedgerState) (note : Note) → note.after ≡ length ledger.entries →
    events (with_notes (note ∷ []) ledger) ≡ events ledger ++ noted note ∷ []

-- no note of a ledger has more entries before it than there are
abbrev pub NotesAreWithin : Type 0
NotesAreWithin = (ledger : LedgerState) → IsLedger ledger → AreWithin (length ledger.entries) ledger.notes
