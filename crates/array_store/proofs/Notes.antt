-- Notes under an open pin, whatever others do.
use Rattle.std.proofs.Common.{◌≡◌, ◌∙◌, ℕ, Bool, true, false, not, ◌&&◌, nat_eq, List, [], ◌∷◌, ◌++◌, refl, ap}
use Rattle.std.specs.List.{list_all}
use Rattle.std.proofs.lemmas.Bool.{and_from, and_parts}
use Rattle.turn_lock.specs.Owners.{is_owned_by, none_of}
use Rattle.store_ledger.specs.declared.note.Note.{Note}
use Rattle.store_ledger.specs.declared.note.NoteKind.{NoteKind}
use Rattle.store_ledger.specs.Ledger.{LedgerState, is_noted, with_entries, with_notes}
use Rattle.store_ledger.proofs.Pins.{notes_outlast as ledgers_outlast}
use Rattle.prepared_commits.specs.Event.{Event}
use Rattle.prepared_commits.specs.Event.TheVariants.{Entered, Acknowledged, Noted}
use Rattle.prepared_commits.specs.Events.{owner_of}
use Rattle.array_store.specs.declared.store.start.Start.{Start}
use Rattle.array_store.specs.Told.{entries_in, ledger_of, notes_in}
use Rattle.array_store.specs.Turns.{leaves_notes_of, leaves_pin_of}
use Rattle.array_store.specs.ToldLaws.{NotesOutlast, OthersLeaveNotes}
use Rattle.array_store.proofs.Sights.{entry_leaves, turned_leave}
use Rattle.array_store.proofs.Telling.{entries_in-append, notes_in-append}

not_first : (a b : Bool) → not a ≡ true → not (a && b) ≡ true
not_first true b e = absurd cc
not_first false b e = refl

event_leaves : (kinds : NoteKind → Bool) (session : ℕ) (event : Event) → not (is_owned_by (owner_of event) session) ≡ true → leaves_notes_of kinds session event ≡ true
event_leaves kinds session (Entered entry) e = entry_leaves session entry e
event_leaves kinds session (Acknowledged entry moment directory) e = entry_leaves session entry e
event_leaves kinds session (Noted note) e = not_first (nat_eq note.session session) (kinds note.kind) e

pub others_leave_notes : OthersLeaveNotes
others_leave_notes kinds session [] e = refl
others_leave_notes kinds session (event ∷ others) e =
    let p : (not (is_owned_by (owner_of event) session) ≡ true) × (none_of owner_of session others ≡ true) =
    and_parts (not (is_owned_by (owner_of event) session)) (none_of owner_of session others) e in
    and_from (leaves_notes_of kinds session event) (list_all (leaves_notes_of kinds session) others) (event_leaves kinds session event p.0) (others_leave_notes kinds session others p.1)

module _ (kinds : NoteKind → Bool) (session : ℕ) where
  abbrev is_no_such : Note → Bool
  is_no_such note = not (nat_eq note.session session && kinds note.kind)

  parts : (event : Event) (events : List Event) → list_all (leaves_notes_of kinds session) (event ∷ events) ≡ true
      → (leaves_notes_of kinds session event ≡ true) × (list_all (leaves_notes_of kinds session) events ≡ true)
  parts event events e = and_parts (leaves_notes_of kinds session event) (list_all (leaves_notes_of kinds session) events) e

  one_leaves : (event : Event) → leaves_notes_of kinds session event ≡ true → leaves_pin_of session event ≡ true
  one_leaves (Entered entry) e = e
  one_leaves (Acknowledged entry moment directory) e = e
  one_leaves (Noted note) e = refl

  pins_stay : (events : List Event) → list_all (leaves_notes_of kinds session) events ≡ true → list_all (leaves_pin_of session) events ≡ true
  pins_stay [] e = refl
  pins_stay (event ∷ events) e =
      let p = parts event events e in
      and_from (leaves_pin_of session event) (list_all (leaves_pin_of session) events) (one_leaves event p.0) (pins_stay events p.1)

  notes_stay : (events : List Event) → list_all (leaves_notes_of kinds session) events ≡ true → list_all is_no_such (notes_in events) ≡ true
  notes_stay [] e = refl
  notes_stay (Entered entry ∷ events) e = notes_stay events (parts (Entered entry) events e).1
  notes_stay (Acknowledged entry moment directory ∷ events) e = notes_stay events (parts (Acknowledged entry moment directory) events e).1
  notes_stay (Noted note ∷ events) e =
      let p = parts (Noted note) events e in
      and_from (is_no_such note) (list_all is_no_such (notes_in events)) p.0 (notes_stay events p.1)

-- the ledger that more events tell
pub more_ledger : {D : Type 0} (start : Start D) (old more : List Event) → ledger_of start (old ++ more) ≡ with_notes (notes_in more) (with_entries (entries_in more) (ledger_of start old))
more_ledger start old more = λ i. record { base = start.base; limit = start.limit; entries = entries_in-append old more i; notes = notes_in-append old more i }

pub notes_outlast : (D : Type 0) → NotesOutlast D
notes_outlast D start old more session kinds leaves =
    ap (λ (ledger : LedgerState). is_noted kinds ledger session) (more_ledger start old more)
    ∙ ledgers_outlast (ledger_of start old) session kinds (entries_in more) (notes_in more) (turned_leave session more (pins_stay kinds session more leaves)) (notes_stay kinds session more leaves)
