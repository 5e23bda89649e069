-- What a session does to a store, and what it does for a statement.
use Rattle.std.specs.Prelude.{List, [], ◌∷◌, ◌++◌}
use Rattle.plan_changes.specs.declared.change.Change.{Change}
use Rattle.event_core.specs.declared.entry.Entry.{Entry}
use Rattle.event_core.specs.declared.entry.Entry.TheVariants.{Pin, Unpin, Commit, Reap}
use Rattle.store_ledger.specs.declared.note.NoteKind.{NoteKind}
use Rattle.store_ledger.specs.declared.note.NoteKind.TheVariants.{Fault, Tried}
use Rattle.store_state.specs.declared.state.event.Event.{Event}
use Rattle.store_state.specs.declared.state.event.Event.TheVariants.{Entered, Acknowledged, Noted}

-- a pin begins, or ends; a commit of a change is tried, or made
pub data Act : Type 0 where
  begins : Act
  ends : Act
  tries : Change → Act
  makes : Change → Act

abbrev pub acts_of_entry : Entry → List Act
acts_of_entry (Pin session) = begins ∷ []
acts_of_entry (Unpin session) = ends ∷ []
acts_of_entry (Commit session change used) = makes change ∷ []
acts_of_entry Reap = []

-- that the disk failed is nobody's act
abbrev pub acts_of_note : NoteKind → List Act
acts_of_note Fault = []
acts_of_note (Tried change) = tries change.value ∷ []

-- the acts among events
abbrev pub acts_in : List Event → List Act
acts_in [] = []
acts_in (Entered entry ∷ events) = acts_of_entry entry ++ acts_in events
acts_in (Acknowledged entry moment directory ∷ events) = acts_of_entry entry ++ acts_in events
acts_in (Noted note ∷ events) = acts_of_note note.kind ++ acts_in events

-- WHAT A STATEMENT DOES: nothing; or it looks at the arrays under a pin; or it tries besides to commit a change, and makes it or not
pub data Course : Type 0 where
  nothing : Course
  looking : Course
  trying : Change → Course
  making : Change → Course

abbrev pub acts_for : Course → List Act
acts_for nothing = []
acts_for looking = begins ∷ ends ∷ []
acts_for (trying change) = begins ∷ tries change ∷ ends ∷ []
acts_for (making change) = begins ∷ tries change ∷ makes change ∷ ends ∷ []
