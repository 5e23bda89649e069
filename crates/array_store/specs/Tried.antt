-- What is added where a commit is tried.
use Rattle.std.specs.Prelude.{◌≡◌, ℕ, ◌⊎◌, Bool, List, [], ◌∷◌, ◌++◌}
use Rattle.chunk_map.specs.declared.directory.Directory.{Directory}
use Rattle.plan_changes.specs.declared.change.Change.{Change}
use Rattle.event_core.specs.declared.entry.Entry.TheVariants.{Commit}
use Rattle.event_core.specs.declared.entry.Used.{Used}
use Rattle.store_ledger.specs.declared.note.NoteKind.TheVariants.{Fault}
use Rattle.store_ledger.specs.Ledger.{LedgerState, note_now}
use Rattle.prepared_commits.specs.Event.{Event}
use Rattle.prepared_commits.specs.Event.TheVariants.{Acknowledged, Noted}
use Rattle.prepared_commits.specs.Standings.{Standing}
use Rattle.array_store.specs.Growth.{AddsEvents, tried_events}

-- no event, or the note of a fault by a session, behind all entries of a ledger
abbrev pub IsFaultOrNone : LedgerState → ℕ → List Event → Type 0
IsFaultOrNone ledger session faults = (faults ≡ []) ⊎ (faults ≡ Noted (note_now Fault ledger session) ∷ [])

-- A COMMIT THAT IS TRIED adds the note of it, and a reap or none; then these events; and then the note of a fault, or none
pub record AddsTried {D : Type 0} (session : ℕ) (change : Change) (own : List Event) (old new : Standing D) : Type 0 where
  pub comes : Bool
  pub faults : List Event
  pub fault : IsFaultOrNone new.ledger session faults
  pub adds : AddsEvents (tried_events comes old.ledger session change ++ (own ++ faults)) old new

-- where it is made these are the commit, with the moment at which it was acknowledged and the directory that it made
pub record AddsSealed {D : Type 0} (session : ℕ) (change : Change) (old new : Standing D) : Type 0 where
  pub used : Used
  pub moment : ℕ
  pub directory : Directory
  pub tried : AddsTried session change (Acknowledged (Commit session change used) moment directory ∷ []) old new
