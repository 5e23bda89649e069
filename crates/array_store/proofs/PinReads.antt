-- What a pin sees and reads in a later turn.
use Rattle.std.proofs.Common.{◌≡◌, ◌∙◌, ℕ, ◌⊎◌, Bool, true, false, ◌&&◌, if◌then◌else◌, List, [], ◌∷◌, ◌++◌, inl, inr, Option, None, Some, Result, Ok, Err, IfErr, IsSomeAnd, slice_index, refl, ap, sym, subst}
use Rattle.std.specs.List.{list_all}
use Rattle.std.proofs.lemmas.Bool.{eq-eqb}
use Rattle.arrayvec.specs.ArrayVec.{ArrayVec}
use Rattle.cell_values.specs.declared.schema.Schema.{Schema}
use Rattle.chunk_map.specs.declared.directory.DirEntry.{DirEntry}
use Rattle.afl_outside.specs.Counts.{Rose}
use Rattle.afl_outside.specs.Disk.{DiskState, Moment}
use Rattle.logical_plan.specs.declared.parts.Leaf.{Leaf}
use Rattle.plan_changes.specs.Databases.{Database}
use Rattle.turn_lock.specs.Owners.{none_of, only_of}
use Rattle.event_core.specs.Cells.{at}
use Rattle.event_core.specs.History.{History}
use Rattle.store_ledger.specs.declared.note.Note.{Note}
use Rattle.store_ledger.specs.declared.note.NoteKind.TheVariants.{Fault}
use Rattle.store_ledger.specs.declared.pinned.Pinned.{Pinned}
use Rattle.store_ledger.specs.Ledger.{IsOpenPin, LedgerState, is_fault, is_noted, note_now}
use Rattle.prepared_commits.specs.Event.{Event}
use Rattle.prepared_commits.specs.Event.TheVariants.{Noted}
use Rattle.prepared_commits.specs.ReadFault.{ReadFault}
use Rattle.prepared_commits.specs.ReadFault.TheVariants.{Damaged, Disk, Memory}
use Rattle.prepared_commits.specs.Calls.{IsUnread, chunks_at, history_at, payload_at}
use Rattle.prepared_commits.specs.Events.{owner_of}
use Rattle.prepared_commits.specs.Standings.{BeganAs, Standing}
use Rattle.array_store.specs.declared.store.start.Start.{Start}
use Rattle.array_store.specs.Growth.{AddsEvents, AddsFault, fault_events}
use Rattle.array_store.proofs.Ended.{rose_or_not}
use Rattle.array_store.specs.Faults.{IsUnreadUnder}
use Rattle.array_store.specs.Told.{IsTold, is_sealed, ledger_of, told}
use Rattle.array_store.specs.Turns.{leaves_pin_of}
use Rattle.array_store.specs.ToldLaws.{SeesTheSame}
use Rattle.array_store.proofs.Sights.{others_leave_pins, pins_outlast, pins_see_the_same}

-- ---- the store in hand, and a pin that was open as its seat had seen it

module _ {D : Type 0} (moment : D → Moment) (start : Start D) (old others : List Event) (s : Standing D) (pinned : Pinned)
    (is : IsTold start (old ++ others) s) (theirs : none_of owner_of pinned.session others ≡ true) (o : IsOpenPin (ledger_of start old) pinned) where
  pub open_now : IsOpenPin s.ledger pinned
  open_now =
      subst (λ (ledger : LedgerState). IsOpenPin ledger pinned) (sym (ap (λ (x : Standing D). x.ledger) is))
      (pins_outlast D start old others pinned (others_leave_pins pinned.session others theirs) o)

  pub began_now : (db : Database) → BeganAs (moment start.opened.disk).state db → BeganAs (moment s.opened.disk).state db
  began_now db = subst (λ (d : D). BeganAs (moment d).state db) (sym (ap (λ (x : Standing D). x.opened.disk) is))

  module _ (sealed : list_all is_sealed old ≡ true) where
    sees : SeesTheSame pinned.place (told start old) (told start (old ++ others))
    sees = pins_see_the_same D start old others pinned sealed o

    pub chunks_now : (leaf : Leaf) → chunks_at s pinned.place leaf ≡ chunks_at (told start old) pinned.place leaf
    chunks_now leaf = ap (λ (x : Standing D). chunks_at x pinned.place leaf) is ∙ sees.chunks leaf

    pub payload_now : (leaf : Leaf) (k : ArrayVec ℕ) → payload_at s pinned.place leaf k ≡ payload_at (told start old) pinned.place leaf k
    payload_now leaf k = ap (λ (x : Standing D). payload_at x pinned.place leaf k) is ∙ sees.payloads leaf k

    -- what holds of the database at the pin holds of it as the seat had seen it
    pub over_pin : (P : Database → Type 0) → ((db : Database) → BeganAs (moment s.opened.disk).state db → P (at db (history_at s pinned.place))) →
        (db : Database) → BeganAs (moment start.opened.disk).state db → P (at db (history_at (told start old) pinned.place))
    over_pin P holds db began =
        subst (λ (h : History). P (at db h)) (ap (λ (x : Standing D). history_at x pinned.place) is ∙ sees.history) (holds db (began_now db began))

-- ---- what a read adds

-- the events that a read adds: none, or those of a fault
pub record AddsSome {D : Type 0} (moment : D → Moment) (session : ℕ) (s t : Standing D) : Type 0 where
  pub own : List Event
  pub adds : AddsEvents own s t
  pub note : (own ≡ []) ⊎ (own ≡ fault_events s.ledger session)

adds_by : {D : Type 0} (moment : D → Moment) (session : ℕ) (s t : Standing D) →
    Rose (moment s.disk).state.faults (moment t.disk).state.faults ⊎ (¬ Rose (moment s.disk).state.faults (moment t.disk).state.faults) →
    AddsFault moment session s t → AddsSome moment session s t
adds_by moment session s t (inl rose) a = record { own = fault_events s.ledger session; adds = a.rose rose; note = inr refl }
adds_by moment session s t (inr still) a = record { own = []; adds = a.still still; note = inl refl }

pub adds_some : {D : Type 0} (moment : D → Moment) (session : ℕ) (s t : Standing D) → AddsFault moment session s t → AddsSome moment session s t
adds_some moment session s t a = adds_by moment session s t (rose_or_not (moment s.disk).state.faults (moment t.disk).state.faults) a

fault_is_own : (b : Bool) (session : ℕ) (note : Note) → note.session ≡ session → only_of owner_of session (if b then [] else Noted note ∷ []) ≡ true
fault_is_own true session note e = refl
fault_is_own false session note e = ap (λ (b : Bool). b && true) (eq-eqb note.session session e)

only_by : (session : ℕ) (ledger : LedgerState) (own : List Event) → (own ≡ []) ⊎ (own ≡ fault_events ledger session) → only_of owner_of session own ≡ true
only_by session ledger own (inl e) = ap (only_of owner_of session) e
only_by session ledger own (inr e) = ap (only_of owner_of session) e ∙ fault_is_own (is_noted is_fault ledger session) session (note_now Fault ledger session) refl

pub some_only : {D : Type 0} (moment : D → Moment) (session : ℕ) (s t : Standing D) (a : AddsSome moment session s t) → only_of owner_of session a.own ≡ true
some_only moment session s t a = only_by session s.ledger a.own a.note

-- none of them is a pin or an unpin
fault_leaves : (b : Bool) (session : ℕ) (note : Note) → list_all (leaves_pin_of session) (if b then [] else Noted note ∷ []) ≡ true
fault_leaves true session note = refl
fault_leaves false session note = refl

leaves_by : (session : ℕ) (ledger : LedgerState) (own : List Event) → (own ≡ []) ⊎ (own ≡ fault_events ledger session) → list_all (leaves_pin_of session) own ≡ true
leaves_by session ledger own (inl e) = ap (list_all (leaves_pin_of session)) e
leaves_by session ledger own (inr e) = ap (list_all (leaves_pin_of session)) e ∙ fault_leaves (is_noted is_fault ledger session) session (note_now Fault ledger session)

pub some_leaves : {D : Type 0} (moment : D → Moment) (session : ℕ) (s t : Standing D) (a : AddsSome moment session s t) → list_all (leaves_pin_of session) a.own ≡ true
some_leaves moment session s t a = leaves_by session s.ledger a.own a.note

-- ---- why a chunk can't be read

damaged_by : (page : ℕ) (old now : DiskState) (schema : Schema) (o : Option DirEntry) → IsUnread old now schema o (Damaged page) → IsSomeAnd o (λ entry. page ≡ slice_index entry.pages 0)
damaged_by page old now schema None e = absurd e
damaged_by page old now schema (Some entry) e = e.0

told_cause : (ledger : LedgerState) (session : ℕ) (old now : DiskState) (schema : Schema) (o other : Option DirEntry) (fault : ReadFault) →
    (Rose old.faults now.faults → is_noted is_fault ledger session ≡ true) → o ≡ other → IsUnread old now schema o fault → IsUnreadUnder ledger session other fault
told_cause ledger session old now schema o other Disk noted same cause = noted cause
told_cause ledger session old now schema o other (Damaged page) noted same cause =
    subst (λ (p : Option DirEntry). IsSomeAnd p (λ entry. page ≡ slice_index entry.pages 0)) same (damaged_by page old now schema o cause)
told_cause ledger session old now schema o other Memory noted same cause = tt

pub told_causes : {A : Type 0} (ledger : LedgerState) (session : ℕ) (old now : DiskState) (schema : Schema) (o other : Option DirEntry) (result : Result A ReadFault) →
    (Rose old.faults now.faults → is_noted is_fault ledger session ≡ true) → o ≡ other → IfErr result (IsUnread old now schema o) →
    IfErr result (IsUnreadUnder ledger session other)
told_causes ledger session old now schema o other (Ok value) noted same cause = tt
told_causes ledger session old now schema o other (Err fault) noted same cause = told_cause ledger session old now schema o other fault noted same cause
