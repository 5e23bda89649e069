-- The ledger of a store: a history, notes, and the entries that open pins reserve.
use Rattle.std.specs.Prelude.{◌≡◌, ◌≤◌, ◌<◌, ◌+◌, ℕ, Bool, true, false, not, ◌&&◌, if◌then◌else◌, nat_eq, nat_le}
use Rattle.std.specs.Prelude.{nat_lt, List, [], ◌∷◌, ◌++◌, length, map, reverse, Option, None, Some, IfSome, IsTrue}
use Rattle.std.specs.List.{filter, list_all, list_any, sum_by}
use Rattle.store_versions.specs.Change.{Change}
use Rattle.store_versions.specs.Entry.{Entry}
use Rattle.store_versions.specs.Entry.TheVariants.{Pin, Unpin, Commit, Reap}
use Rattle.store_versions.specs.Core.{Core}
use Rattle.version_reaper.specs.PageSets.{pages_below}
use Rattle.event_core.specs.Allowed.{IsBase, is_allowed, is_pinned}
use Rattle.store_versions.specs.Bases.{commits}
use Rattle.store_versions.specs.Pages.{is_live, is_awaiting}
use Rattle.store_versions.specs.History.{History, OpenPin, names_at, open_pins, pin_before, up_to}
use Rattle.store_ledger.specs.declared.note.Note.{Note}
use Rattle.store_ledger.specs.declared.note.NoteKind.{NoteKind}
use Rattle.store_ledger.specs.declared.note.NoteKind.TheVariants.{Fault, Tried}
use Rattle.store_ledger.specs.declared.pinned.Pinned.{Pinned}
use Rattle.store_ledger.specs.declared.pinned.PinFault.{PinFault}
use Rattle.store_ledger.specs.declared.pinned.PinFault.TheVariants.{HistoryFull, Memory}

-- a ledger as contracts see it: where it began, how many entries it may have, its entries and its notes, the oldest first
pub record LedgerState : Type 0 where
  pub base : Core
  pub limit : ℕ
  pub entries : List Entry
  pub notes : List Note

abbrev pub history : LedgerState → History
history ledger = reverse ledger.entries

-- the ledger with more entries, or with more notes
abbrev pub with_entries : List Entry → LedgerState → LedgerState
with_entries more ledger = record ledger { entries = ledger.entries ++ more }

abbrev pub with_notes : List Note → LedgerState → LedgerState
with_notes more ledger = record ledger { notes = ledger.notes ++ more }

-- ---- notes

-- a commit of this change was tried
abbrev pub attempt : Change → NoteKind
attempt change = Tried (record { marker = record {}; value = change })

abbrev pub is_fault : NoteKind → Bool
is_fault Fault = true
is_fault (Tried change) = false

abbrev pub is_tried : NoteKind → Bool
is_tried Fault = false
is_tried (Tried change) = true

-- whether a kind is like another, whichever change was tried
abbrev pub is_kind : NoteKind → NoteKind → Bool
is_kind Fault kind = is_fault kind
is_kind (Tried change) kind = is_tried kind

-- whether a note of some kinds was made under a pin: by its session, after the pin
abbrev pub is_under : (NoteKind → Bool) → OpenPin → Note → Bool
is_under kinds pin note = nat_eq note.session pin.session && (kinds note.kind && nat_lt (length pin.before) note.after)

abbrev pub has_note : (NoteKind → Bool) → List Note → OpenPin → Bool
has_note kinds notes pin = list_any (is_under kinds pin) notes

-- a note behind others: none of them has more entries before it, its session was pinned, and had no note of this kind under this pin
pub record IsNote (h : History) (others : List Note) (note : Note) : Type 0 where
  pub within : note.after ≤ length h
  pub rising : IsTrue (list_all (λ other. nat_le other.after note.after) others)
  pub pinned : IsTrue (is_pinned note.session (up_to note.after h))
  pub once : IfSome (pin_before note.session (up_to note.after h))
      (λ before. has_note (is_kind note.kind) others (record { session = note.session; before = before }) ≡ false)

-- whether a note of some kinds was made under the open pin of a session, if it has one
abbrev pub has_under : (NoteKind → Bool) → List Note → ℕ → Option History → Bool
has_under kinds notes session None = false
has_under kinds notes session (Some before) = has_note kinds notes (record { session = session; before = before })

abbrev pub is_noted : (NoteKind → Bool) → LedgerState → ℕ → Bool
is_noted kinds ledger session = has_under kinds ledger.notes session (pin_before session (history ledger))

-- the note of a kind that a session makes now
abbrev pub note_now : NoteKind → LedgerState → ℕ → Note
note_now kind ledger session = record { session = session; kind = kind; after = length ledger.entries }

-- the ledger with the note of a fault under a session's pin, if none was made there yet
abbrev pub with_fault : ℕ → LedgerState → LedgerState
with_fault session ledger = if is_noted is_fault ledger session then ledger else with_notes (note_now Fault ledger session ∷ []) ledger

-- notes, the newest first, that may stand beside a history
abbrev pub AreNoted : History → List Note → Type 0
AreNoted h [] = Unit {0}
AreNoted h (note ∷ others) = AreNoted h others × IsNote h others note

-- no note has more entries before it than there are
abbrev pub AreWithin : ℕ → List Note → Type 0
AreWithin count notes = IsTrue (list_all (λ note. nat_le note.after count) notes)

-- ---- room

-- a pin reserves three entries: those of a reap, of its commit and of its unpin. Once a commit was tried under it, one
abbrev pub reserved_by : List Note → OpenPin → ℕ
reserved_by notes pin = if has_note is_tried notes pin then 1 else 3

abbrev pub reserved : LedgerState → ℕ
reserved ledger = sum_by (reserved_by ledger.notes) (open_pins (history ledger))

-- whether so many entries more than those that stand and those that are reserved are within the limit: 4 for a pin, 1 for a reap of nobody's
abbrev pub has_room : LedgerState → ℕ → Bool
has_room ledger count = nat_le (length ledger.entries + reserved ledger + count) ledger.limit

-- ---- how many reaps

abbrev pub reaps : History → ℕ
reaps [] = 0
reaps (Pin session ∷ before) = reaps before
reaps (Unpin session ∷ before) = reaps before
reaps (Commit session change used ∷ before) = reaps before
reaps (Reap ∷ before) = reaps before + 1

abbrev pub unpins : History → ℕ
unpins [] = 0
unpins (Pin session ∷ before) = unpins before
unpins (Unpin session ∷ before) = unpins before + 1
unpins (Commit session change used ∷ before) = unpins before
unpins (Reap ∷ before) = unpins before

-- how often there was cause for a reap: each commit, each unpin, and each commit that was tried
abbrev pub causes : History → List Note → ℕ
causes h notes = commits h + unpins h + length (filter (λ note. is_tried note.kind) notes)

-- whether some page awaits a reap
abbrev pub is_waiting : Core → History → Bool
is_waiting base h = list_any (is_awaiting base h) (pages_below base.limit)

-- REAPS ARE FEW: each had a cause of its own, and where a page awaits a reap there is one more. No pin has more than three: its commit, its
-- unpin, and that a commit was tried under it
abbrev pub AreFew : Core → History → List Note → Type 0
AreFew base h notes = reaps h + (if is_waiting base h then 1 else 0) ≤ causes h notes

-- there is a cause for one more
abbrev pub MayReap : LedgerState → Type 0
MayReap ledger = reaps (history ledger) < causes (history ledger) ledger.notes

-- WHAT A LEDGER IS: its entries are allowed over a base, its notes may stand beside them, what stands and what is reserved is within the
-- limit, and reaps are few
pub record IsLedger (ledger : LedgerState) : Type 0 where
  pub base : IsBase ledger.base
  pub allowed : IsTrue (is_allowed ledger.base (history ledger))
  pub notes : AreNoted (history ledger) (reverse ledger.notes)
  pub room : IsTrue (has_room ledger 0)
  pub few : AreFew ledger.base (history ledger) ledger.notes

-- ---- open pins

-- the session and the place of an open pin
abbrev pub open_place : OpenPin → ℕ × ℕ
open_place pin = (pin.session, length pin.before)

-- what a session holds is its open pin
pub record IsOpenPin (ledger : LedgerState) (pinned : Pinned) : Type 0 where
  pub before : History
  pub begun : pin_before pinned.session (history ledger) ≡ Some before
  pub place : pinned.place ≡ length before
  pub names : pinned.names ≡ names_at ledger.base before

-- why a pin is refused: the history has no room for it and for what it would reserve, or memory is short
abbrev pub IsRefused : LedgerState → PinFault → Type 0
IsRefused ledger (HistoryFull entries) = (has_room ledger 4 ≡ false) × (entries ≡ length ledger.entries)
IsRefused ledger Memory = IsTrue (has_room ledger 4)

-- ---- pages

-- the pages from 1 on that nobody can name
abbrev pub unused_pages : LedgerState → List ℕ
unused_pages ledger = filter (λ page. not (is_live ledger.base (history ledger) page)) (pages_below ledger.base.limit)

-- whether a reap comes: some page awaits it, and the history has room for it
abbrev pub reap_comes : LedgerState → Bool
reap_comes ledger = has_room ledger 1 && is_waiting ledger.base (history ledger)

-- ---- events

-- what a ledger has of both kinds
pub data Event : Type 0 where
  entered : Entry → Event
  noted : Note → Event

-- entries and notes in the order in which they came: each note behind as many entries as it says
abbrev pub events_from : ℕ → List Entry → List Note → List Event
events_from place [] notes = map noted (filter (λ note. nat_le place note.after) notes)
events_from place (entry ∷ entries) notes = map noted (filter (λ note. nat_eq note.after place) notes) ++ entered entry ∷ events_from (place + 1) entries notes

abbrev pub events : LedgerState → List Event
events ledger = events_from 0 ledger.entries ledger.notes

-- whose an event is: a reap is nobody's
abbrev pub owner_of : Event → Option ℕ
owner_of (entered (Pin session)) = Some session
owner_of (entered (Unpin session)) = Some session
owner_of (entered (Commit session change used)) = Some session
owner_of (entered Reap) = None
owner_of (noted note) = Some note.session
