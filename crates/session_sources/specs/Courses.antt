-- What a session adds to the events of a store, in whichever turns.
use Rattle.std.specs.Prelude.{◌≡◌, ℕ, ◌⊎◌, List, [], ◌∷◌, ◌++◌, IsTrue}
use Rattle.store_ledger.specs.declared.note.NoteKind.TheVariants.{Fault}
use Rattle.store_ledger.specs.Ledger.{LedgerState, is_fault, is_noted}
use Rattle.snapshot_manager.specs.Event.{Event}
use Rattle.snapshot_manager.specs.Event.TheVariants.{Noted}
use Rattle.snapshot_manager.specs.Start.{Start}
use Rattle.snapshot_manager.specs.Told.{ledger_of}
use Rattle.snapshot_manager.specs.Turns.{own_events}

-- A COURSE OF A SESSION: more events came behind those that it had seen, and of them these are its own
pub record AddsOwn (session : ℕ) (own old new : List Event) : Type 0 where
  pub more : List Event
  pub grown : new ≡ old ++ more
  pub mine : own_events session more ≡ own

-- the note of one fault of a session, which stands under its pin
pub record IsOneFault (ledger : LedgerState) (session : ℕ) (own : List Event) : Type 0 where
  pub after : ℕ
  pub is : own ≡ Noted (record { session = session; kind = Fault; after = after }) ∷ []
  pub noted : IsTrue (is_noted is_fault ledger session)

-- nothing, or such a note
abbrev pub IsFaultAtMost : LedgerState → ℕ → List Event → Type 0
IsFaultAtMost ledger session own = (own ≡ []) ⊎ IsOneFault ledger session own

-- of its own a session added the note of one fault at most
pub record AddsAtMostFault {D : Type 0} (start : Start D) (session : ℕ) (old new : List Event) : Type 0 where
  pub own : List Event
  pub adds : AddsOwn session own old new
  pub note : IsFaultAtMost (ledger_of start new) session own
