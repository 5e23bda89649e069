-- What a turn adds to the events that a seat has seen.
use Rattle.std.specs.Prelude.{◌≡◌, ℕ, ◌-◌, ◌⊎◌, Bool, true, not, ◌&&◌, nat_eq, if◌then◌else◌, List, [], ◌∷◌, ◌++◌, length, take}
use Rattle.std.specs.List.{filter}
use Rattle.turn_lock.specs.Owners.{is_owned_by, none_of}
use Rattle.event_core.specs.declared.entry.Entry.TheVariants.{Pin, Reap}
use Rattle.event_core.specs.History.{leaves_pin}
use Rattle.store_ledger.specs.declared.note.NoteKind.{NoteKind}
use Rattle.prepared_commits.specs.Event.{Event}
use Rattle.prepared_commits.specs.Event.TheVariants.{Entered, Acknowledged, Noted}
use Rattle.prepared_commits.specs.Events.{owner_of}
use Rattle.array_store.specs.declared.store.start.Start.{Start}
use Rattle.array_store.specs.Growth.{fault_events}
use Rattle.array_store.specs.Told.{ledger_of}

-- A TURN OF A SESSION: behind all that its seat had seen it found what others had added, none of it the session's, and then added these
pub record Adds (session : ℕ) (own old new : List Event) : Type 0 where
  pub others : List Event
  pub theirs : none_of owner_of session others ≡ true
  pub grown : new ≡ (old ++ others) ++ own

-- what a turn had found that ended with these events, the last of them its own
abbrev pub found_before : List Event → List Event → List Event
found_before own new = take (length new - length own) new

-- what a pin adds, and what a reap does
abbrev pub pin_event : ℕ → Event
pin_event session = Entered (Pin session)

abbrev pub reap_events : Bool → List Event
reap_events comes = if comes then Entered Reap ∷ [] else []

-- a turn added nothing, or the note of a fault under its session's pin, if none was made there yet
pub record AddsAtMostNote {D : Type 0} (start : Start D) (session : ℕ) (old new : List Event) : Type 0 where
  pub own : List Event
  pub adds : Adds session own old new
  pub note : (own ≡ []) ⊎ (own ≡ fault_events (ledger_of start (found_before own new)) session)

-- the events of a session, among others'
abbrev pub own_events : ℕ → List Event → List Event
own_events session events = filter (λ event. is_owned_by (owner_of event) session) events

-- whether an event is neither a pin nor an unpin of a session
abbrev pub leaves_pin_of : ℕ → Event → Bool
leaves_pin_of session (Entered entry) = leaves_pin session entry
leaves_pin_of session (Acknowledged entry moment directory) = leaves_pin session entry
leaves_pin_of session (Noted note) = true

-- whether it is none of these, and no note of some kinds by the session
abbrev pub leaves_notes_of : (NoteKind → Bool) → ℕ → Event → Bool
leaves_notes_of kinds session (Entered entry) = leaves_pin session entry
leaves_notes_of kinds session (Acknowledged entry moment directory) = leaves_pin session entry
leaves_notes_of kinds session (Noted note) = not (nat_eq note.session session && kinds note.kind)
