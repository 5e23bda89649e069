-- What holds of events, of turns, and of what pins see.
use Rattle.std.specs.Prelude.{◌≡◌, ℕ, Bool, true, List, ◌++◌, IsTrue}
use Rattle.std.specs.List.{list_all}
use Rattle.arrayvec.specs.ArrayVec.{ArrayVec}
use Rattle.logical_plan.specs.declared.parts.Leaf.{Leaf}
use Rattle.turn_lock.specs.Owners.{none_of}
use Rattle.store_ledger.specs.declared.note.NoteKind.{NoteKind}
use Rattle.store_ledger.specs.declared.pinned.Pinned.{Pinned}
use Rattle.store_ledger.specs.Ledger.{IsLedger, IsOpenPin, is_noted}
use Rattle.prepared_commits.specs.Event.{Event}
use Rattle.prepared_commits.specs.Calls.{chunks_at, history_at, payload_at}
use Rattle.prepared_commits.specs.Events.{events, owner_of}
use Rattle.prepared_commits.specs.Standings.{Standing, versions_after}
use Rattle.array_store.specs.declared.store.start.Start.{Start}
use Rattle.array_store.specs.Growth.{IsCounted}
use Rattle.array_store.specs.Starts.{start_of}
use Rattle.array_store.specs.Told.{is_sealed, ledger_of, told, IsTold}
use Rattle.array_store.specs.Turns.{found_before, leaves_notes_of, leaves_pin_of, own_events, Adds}

-- a store is the one that its start and its events tell, and each of its commits was acknowledged
pub record IsToldWhole {D : Type 0} (s : Standing D) : Type 0 where
  pub told : IsTold (start_of s) (events s) s
  pub sealed : IsTrue (list_all is_sealed (events s))

abbrev pub StoresAreTold : Type 0 → Type 0
StoresAreTold D = (s : Standing D) → IsLedger s.ledger → IsCounted s → IsToldWhole s

-- what a turn found is all that its seat had seen, and what others had added
abbrev pub TurnsFind : Type 0
TurnsFind = (session : ℕ) (own old new : List Event) (turn : Adds session own old new) → found_before own new ≡ old ++ turn.others

-- of its session's own events it added those that are among what it added, and no other
abbrev pub TurnsAddOwn : Type 0
TurnsAddOwn = (session : ℕ) (own old new : List Event) → Adds session own old new →
    own_events session new ≡ own_events session old ++ own_events session own

-- none of others' events is a pin or an unpin of a session
abbrev pub OthersLeavePins : Type 0
OthersLeavePins = (session : ℕ) (others : List Event) → none_of owner_of session others ≡ true → IsTrue (list_all (leaves_pin_of session) others)

-- an open pin is one after more events, if none of them is a pin or an unpin of its session
abbrev pub PinsOutlast : Type 0 → Type 0
PinsOutlast D = (start : Start D) (old more : List Event) (pinned : Pinned) → IsTrue (list_all (leaves_pin_of pinned.session) more) →
    IsOpenPin (ledger_of start old) pinned → IsOpenPin (ledger_of start (old ++ more)) pinned

-- none of others' events is a note by a session, of whichever kinds
abbrev pub OthersLeaveNotes : Type 0
OthersLeaveNotes = (kinds : NoteKind → Bool) (session : ℕ) (others : List Event) → none_of owner_of session others ≡ true →
    IsTrue (list_all (leaves_notes_of kinds session) others)

-- whether a note of some kinds stands under a session's open pin stays so after more events, if none of them is a pin or an unpin of the
-- session, or such a note by it
abbrev pub NotesOutlast : Type 0 → Type 0
NotesOutlast D = (start : Start D) (old more : List Event) (session : ℕ) (kinds : NoteKind → Bool) →
    IsTrue (list_all (leaves_notes_of kinds session) more) →
    is_noted kinds (ledger_of start (old ++ more)) session ≡ is_noted kinds (ledger_of start old) session

-- two stores have at a place the same history, the same versions, and the same chunks, whose payloads lie in the same pages
pub record SeesTheSame {D : Type 0} (place : ℕ) (s t : Standing D) : Type 0 where
  pub history : history_at t place ≡ history_at s place
  pub versions : versions_after t (history_at t place) ≡ versions_after s (history_at s place)
  pub chunks : (leaf : Leaf) → chunks_at t place leaf ≡ chunks_at s place leaf
  pub payloads : (leaf : Leaf) (at : ArrayVec ℕ) → payload_at t place leaf at ≡ payload_at s place leaf at

-- WHAT AN OPEN PIN SEES STAYS, whatever comes after it
abbrev pub PinsSeeTheSame : Type 0 → Type 0
PinsSeeTheSame D = (start : Start D) (old more : List Event) (pinned : Pinned) → IsTrue (list_all is_sealed old) →
    IsOpenPin (ledger_of start old) pinned → SeesTheSame pinned.place (told start old) (told start (old ++ more))
