-- What a session adds in a turn: its entries, and its acts.
use Rattle.std.proofs.Common.{◌≡◌, ◌∙◌, inl, inr, ℕ, Bool, true, false, ◌&&◌, nat_eq, if◌then◌else◌, List, [], ◌∷◌, ◌++◌, refl, ap, sym, append-nil}
use Rattle.std.specs.List.{list_all}
use Rattle.std.proofs.lemmas.Bool.{and_from}
use Rattle.std.proofs.lemmas.List.Folds.{list_all-append}
use Rattle.plan_changes.specs.declared.change.Change.{Change}
use Rattle.event_core.specs.declared.entry.Entry.{Entry}
use Rattle.event_core.specs.declared.entry.Entry.TheVariants.{Pin, Unpin, Commit, Reap}
use Rattle.event_core.proofs.Tests.{both_not}
use Rattle.snapshot_manager.specs.Owners.{only_of}
use Rattle.store_ledger.specs.Ledger.{LedgerState}
use Rattle.store_state.specs.declared.state.event.Event.{Event}
use Rattle.store_state.specs.declared.state.event.Event.TheVariants.{Entered, Acknowledged, Noted}
use Rattle.store_state.specs.Events.{owner_of}
use Rattle.snapshot_manager.specs.Growth.{tried_events}
use Rattle.snapshot_manager.specs.Tried.{IsFaultOrNone}
use Rattle.snapshot_manager.specs.Turns.{leaves_pin_of, own_events}
use Rattle.snapshot_manager.proofs.Telling.{entries_in-append}
use Rattle.session_sources.specs.Courses.{IsFaultAtMost}
use Rattle.snapshot_manager.specs.Told.{entries_in}
use Rattle.session_answers.specs.Acts.{Act, acts_in, acts_of_note, begins, ends, makes, tries}
use Rattle.session_answers.proofs.ActsJoined.{acts_join}

-- ---- what is nobody's is no act

own_step : (b rest : Bool) (event : Event) (own es : List Event) (front : List Act) → ((xs : List Event) → acts_in (event ∷ xs) ≡ front ++ acts_in xs) →
    (b && rest) ≡ true → (rest ≡ true → acts_in own ≡ acts_in es) → acts_in (if b then event ∷ own else own) ≡ acts_in (event ∷ es)
own_step true rest event own es front by e f = by own ∙ ap (λ (all : List Act). front ++ all) (f e) ∙ sym (by es)
own_step false rest event own es front by e f = absurd (both_not false refl e)

pub only_acts : (session : ℕ) (es : List Event) → only_of owner_of session es ≡ true → acts_in (own_events session es) ≡ acts_in es
only_acts session [] e = refl
only_acts session (Entered (Pin k) ∷ es) e =
    own_step (nat_eq k session) (only_of owner_of session es) (Entered (Pin k)) (own_events session es) es (begins ∷ []) (λ xs. refl) e (only_acts session es)
only_acts session (Entered (Unpin k) ∷ es) e =
    own_step (nat_eq k session) (only_of owner_of session es) (Entered (Unpin k)) (own_events session es) es (ends ∷ []) (λ xs. refl) e (only_acts session es)
only_acts session (Entered (Commit k change used) ∷ es) e =
    own_step (nat_eq k session) (only_of owner_of session es) (Entered (Commit k change used)) (own_events session es) es (makes change ∷ []) (λ xs. refl) e (only_acts session es)
only_acts session (Entered Reap ∷ es) e = only_acts session es e
only_acts session (Acknowledged (Pin k) moment directory ∷ es) e =
    own_step (nat_eq k session) (only_of owner_of session es) (Acknowledged (Pin k) moment directory) (own_events session es) es (begins ∷ []) (λ xs. refl) e (only_acts session es)
only_acts session (Acknowledged (Unpin k) moment directory ∷ es) e =
    own_step (nat_eq k session) (only_of owner_of session es) (Acknowledged (Unpin k) moment directory) (own_events session es) es (ends ∷ []) (λ xs. refl) e (only_acts session es)
only_acts session (Acknowledged (Commit k change used) moment directory ∷ es) e =
    own_step (nat_eq k session) (only_of owner_of session es) (Acknowledged (Commit k change used) moment directory) (own_events session es) es (makes change ∷ []) (λ xs. refl) e
    (only_acts session es)
only_acts session (Acknowledged Reap moment directory ∷ es) e = only_acts session es e
only_acts session (Noted note ∷ es) e =
    own_step (nat_eq note.session session) (only_of owner_of session es) (Noted note) (own_events session es) es (acts_of_note note.kind) (λ xs. refl) e (only_acts session es)

-- ---- the note of one fault at most

pub fault_entries : (ledger : LedgerState) (session : ℕ) (own : List Event) → IsFaultAtMost ledger session own → entries_in own ≡ []
fault_entries ledger session own (inl e) = ap entries_in e
fault_entries ledger session own (inr one) = ap entries_in one.is

pub fault_acts : (ledger : LedgerState) (session : ℕ) (own : List Event) → IsFaultAtMost ledger session own → acts_in own ≡ []
fault_acts ledger session own (inl e) = ap acts_in e
fault_acts ledger session own (inr one) = ap acts_in one.is

pub fault_leaves : (ledger : LedgerState) (session : ℕ) (own : List Event) → IsFaultAtMost ledger session own → list_all (leaves_pin_of session) own ≡ true
fault_leaves ledger session own (inl e) = ap (list_all (leaves_pin_of session)) e
fault_leaves ledger session own (inr one) = ap (list_all (leaves_pin_of session)) one.is

pub last_entries : (ledger : LedgerState) (session : ℕ) (faults : List Event) → IsFaultOrNone ledger session faults → entries_in faults ≡ []
last_entries ledger session faults (inl e) = ap entries_in e
last_entries ledger session faults (inr e) = ap entries_in e

last_acts : (ledger : LedgerState) (session : ℕ) (faults : List Event) → IsFaultOrNone ledger session faults → acts_in faults ≡ []
last_acts ledger session faults (inl e) = ap acts_in e
last_acts ledger session faults (inr e) = ap acts_in e

last_leaves : (ledger : LedgerState) (session : ℕ) (faults : List Event) → IsFaultOrNone ledger session faults → list_all (leaves_pin_of session) faults ≡ true
last_leaves ledger session faults (inl e) = ap (list_all (leaves_pin_of session)) e
last_leaves ledger session faults (inr e) = ap (list_all (leaves_pin_of session)) e

-- ---- a commit that is tried

pub tried_entries : (comes : Bool) (ledger : LedgerState) (session : ℕ) (change : Change) →
    entries_in (tried_events comes ledger session change) ≡ (if comes then Reap ∷ [] else [])
tried_entries true ledger session change = refl
tried_entries false ledger session change = refl

tried_acts : (comes : Bool) (ledger : LedgerState) (session : ℕ) (change : Change) → acts_in (tried_events comes ledger session change) ≡ tries change ∷ []
tried_acts true ledger session change = refl
tried_acts false ledger session change = refl

tried_leaves : (comes : Bool) (ledger : LedgerState) (session : ℕ) (change : Change) → list_all (leaves_pin_of session) (tried_events comes ledger session change) ≡ true
tried_leaves true ledger session change = refl
tried_leaves false ledger session change = refl

pub all_append : (p : Event → Bool) (xs ys : List Event) → list_all p xs ≡ true → list_all p ys ≡ true → list_all p (xs ++ ys) ≡ true
all_append p xs ys e f = list_all-append p xs ys ∙ and_from (list_all p xs) (list_all p ys) e f

-- behind the note of a fault, or none, a commit was tried
module _ (session : ℕ) (change : Change) (first second third : LedgerState) (read faults commit : List Event) (comes : Bool)
    (note : IsFaultAtMost first session read) (last : IsFaultOrNone third session faults) where
  abbrev pub trying_events : List Event
  trying_events = tried_events comes second session change

  pub all_acts : acts_in (read ++ (trying_events ++ (commit ++ faults))) ≡ tries change ∷ acts_in commit
  all_acts =
      acts_join read (trying_events ++ (commit ++ faults))
      ∙ ap (λ (all : List Act). all ++ acts_in (trying_events ++ (commit ++ faults))) (fault_acts first session read note)
      ∙ acts_join trying_events (commit ++ faults)
      ∙ ap (λ (all : List Act). all ++ acts_in (commit ++ faults)) (tried_acts comes second session change)
      ∙ ap (λ (all : List Act). tries change ∷ all)
      (acts_join commit faults ∙ ap (λ (all : List Act). acts_in commit ++ all) (last_acts third session faults last) ∙ append-nil (acts_in commit))

  pub all_leave : list_all (leaves_pin_of session) commit ≡ true → list_all (leaves_pin_of session) (read ++ (trying_events ++ (commit ++ faults))) ≡ true
  all_leave leaves =
      let test : Event → Bool = leaves_pin_of session in
      all_append test read (trying_events ++ (commit ++ faults)) (fault_leaves first session read note)
      (all_append test trying_events (commit ++ faults) (tried_leaves comes second session change)
      (all_append test commit faults leaves (last_leaves third session faults last)))

  -- the entries before the commit: those that were there, and a reap or none
  pub entries_before : (found : List Event) → entries_in ((found ++ read) ++ trying_events) ≡ entries_in found ++ (if comes then Reap ∷ [] else [])
  entries_before found =
      entries_in-append (found ++ read) trying_events
      ∙ ap (λ (es : List Entry). es ++ entries_in trying_events)
      (entries_in-append found read ∙ ap (λ (es : List Entry). entries_in found ++ es) (fault_entries first session read note) ∙ append-nil (entries_in found))
      ∙ ap (λ (es : List Entry). entries_in found ++ es) (tried_entries comes second session change)
