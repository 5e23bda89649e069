-- How a commit that was prepared ends: what is added then.
use Rattle.std.proofs.Common.{◌≡◌, ◌∙◌, ℕ, ◌≤◌, ◌⊎◌, Bool, true, false, if◌then◌else◌, nat_eq, nat_le, nat_lt, ◌<◌, ◌&&◌, ◌||◌, List, [], ◌∷◌, ◌++◌, length, inl, inr, Some, refl, ap, sym, subst, arith}
use Rattle.std.specs.List.{list_any}
use Rattle.std.proofs.lemmas.Bool.{eq-eqb}
use Rattle.std.proofs.lemmas.Bool.Decides.{nat_tests}
use Rattle.std.proofs.lemmas.List.{length-reverse}
use Rattle.std.proofs.lemmas.List.Folds.{list_any-append}
use Rattle.afl_outside.specs.Counts.{Rose, risen}
use Rattle.afl_outside.specs.Disk.{DiskState, Moment}
use Rattle.event_core.specs.declared.entry.Entry.{Entry}
use Rattle.event_core.specs.Allowed.{is_pinned}
use Rattle.event_core.specs.History.{History, OpenPin, pin_before}
use Rattle.event_core.proofs.Tests.{both_not}
use Rattle.store_versions.specs.Pins.{PlaceTells}
use Rattle.store_versions.proofs.Pins.{places_tell_pins}
use Rattle.store_ledger.specs.declared.note.Note.{Note}
use Rattle.store_ledger.specs.declared.note.NoteKind.TheVariants.{Fault}
use Rattle.store_ledger.specs.Ledger.{LedgerState, has_under, history, is_fault, is_noted, is_under, note_now, with_fault, with_notes}
use Rattle.store_ledger.proofs.Keeping.{begun_of}
use Rattle.prepared_commits.specs.Event.{Event}
use Rattle.prepared_commits.specs.Event.TheVariants.{Acknowledged, Noted}
use Rattle.prepared_commits.specs.Calls.{NotesFault}
use Rattle.prepared_commits.specs.Standings.{Standing}
use Rattle.prepared_commits.specs.declared.commits.prepared.Prepared.{Prepared}
use Rattle.store_sealing.specs.Steps.{entry_of, made_by, sealed_ledger}
use Rattle.array_store.specs.Growth.{AddsEvents, AddsFault, fault_events}
use Rattle.array_store.specs.Sealing.{AddsCommit}
use Rattle.array_store.specs.Tried.{IsFaultOrNone}

-- ---- whether a count rose

le_test : (n m : ℕ) → n ≤ m → nat_le n m ≡ true
le_test n m e = grind (arith, nat_tests)

le_from : (n m : ℕ) → nat_le n m ≡ true → n ≤ m
le_from n m e = grind (arith, nat_tests)

le_by : (b : Bool) (n m : ℕ) → nat_le n m ≡ b → (n ≤ m) ⊎ (¬ (n ≤ m))
le_by true n m e = inl (le_from n m e)
le_by false n m e = inr (λ le. both_not true (sym (le_test n m le) ∙ e) refl)

pub rose_or_not : (before now : ℕ) → Rose before now ⊎ (¬ Rose before now)
rose_or_not before now = le_by (nat_le (risen before) now) (risen before) now refl

-- ---- the note of a fault

fault_or_none : (b : Bool) (event : Event) → ((if b then [] else event ∷ []) ≡ []) ⊎ ((if b then [] else event ∷ []) ≡ event ∷ [])
fault_or_none true event = inl refl
fault_or_none false event = inr refl

faults_are : (ledger : LedgerState) (session : ℕ) → IsFaultOrNone ledger session (fault_events ledger session)
faults_are ledger session = fault_or_none (is_noted is_fault ledger session) (Noted (note_now Fault ledger session))

same_entries : (b : Bool) (ledger : LedgerState) (note : Note) → (if b then ledger else with_notes (note ∷ []) ledger).entries ≡ ledger.entries
same_entries true ledger note = refl
same_entries false ledger note = refl

same_base : (b : Bool) (ledger : LedgerState) (note : Note) → (if b then ledger else with_notes (note ∷ []) ledger).base ≡ ledger.base
same_base true ledger note = refl
same_base false ledger note = refl

fault_entries : (ledger : LedgerState) (session : ℕ) → (with_fault session ledger).entries ≡ ledger.entries
fault_entries ledger session = same_entries (is_noted is_fault ledger session) ledger (note_now Fault ledger session)

noted_entries_by : (old new : DiskState) (session : ℕ) (before after : LedgerState) → Rose old.faults new.faults ⊎ (¬ Rose old.faults new.faults) →
    NotesFault old new session before after → after.entries ≡ before.entries
noted_entries_by old new session before after (inl rose) n = ap (λ (l : LedgerState). l.entries) (n.rose rose) ∙ fault_entries before session
noted_entries_by old new session before after (inr still) n = ap (λ (l : LedgerState). l.entries) (n.still still)

pub noted_entries : (old new : DiskState) (session : ℕ) (before after : LedgerState) → NotesFault old new session before after → after.entries ≡ before.entries
noted_entries old new session before after n = noted_entries_by old new session before after (rose_or_not old.faults new.faults) n

-- it is then seen under the session's pin

or_second : (a b : Bool) → b ≡ true → (a || b) ≡ true
or_second true b e = refl
or_second false b e = e

under_now : (a b c : Bool) → a ≡ true → c ≡ true → ((a && (true && c)) || b) ≡ true
under_now true b true e f = refl
under_now true b false e f = absurd (both_not false refl f)
under_now false b c e f = absurd (both_not false refl e)

lt_test : (n m : ℕ) → n < m → nat_lt n m ≡ true
lt_test n m e = grind (arith, nat_tests)

module _ (ledger : LedgerState) (session : ℕ) (before : History) (begun : pin_before session (history ledger) ≡ Some before) where
  seen_by : (b : Bool) → is_noted is_fault ledger session ≡ b →
      is_noted is_fault (if b then ledger else with_notes (note_now Fault ledger session ∷ []) ledger) session ≡ true
  seen_by true e = e
  seen_by false e =
      let note : Note = note_now Fault ledger session in
      let pin : OpenPin = record { session = session; before = before } in
      let tells : PlaceTells (history ledger) before = places_tell_pins session (history ledger) before begun in
      let late : nat_lt (length before) (length ledger.entries) ≡ true = lt_test (length before) (length ledger.entries) (omega (arith, tells.within, length-reverse ledger.entries)) in
      ap (has_under is_fault (ledger.notes ++ note ∷ []) session) begun
      ∙ list_any-append (is_under is_fault pin) ledger.notes (note ∷ [])
      ∙ or_second (list_any (is_under is_fault pin) ledger.notes) (list_any (is_under is_fault pin) (note ∷ []))
      (under_now (nat_eq session session) false (nat_lt (length before) (length ledger.entries)) (eq-eqb session session refl) late)

  seen_now : is_noted is_fault (with_fault session ledger) session ≡ true
  seen_now = seen_by (is_noted is_fault ledger session) refl

pub fault_seen : (old new : DiskState) (session : ℕ) (ledger after : LedgerState) → is_pinned session (history ledger) ≡ true → NotesFault old new session ledger after →
    Rose old.faults new.faults → is_noted is_fault after session ≡ true
fault_seen old new session ledger after pinned n rose =
    let begun : (before : History) × (pin_before session (history ledger) ≡ Some before) = begun_of session (history ledger) pinned in
    ap (λ (l : LedgerState). is_noted is_fault l session) (n.rose rose) ∙ seen_now ledger session begun.0 begun.1

-- ---- what is added

-- these events, and the note of a fault, or none
pub record Ends {D : Type 0} (session : ℕ) (own : List Event) (entries : List Entry) (old new : Standing D) : Type 0 where
  pub faults : List Event
  pub fault : IsFaultOrNone new.ledger session faults
  pub adds : AddsEvents (own ++ faults) old new
  pub entries_are : new.ledger.entries ≡ entries

or_none : (ledger now : LedgerState) (session : ℕ) (faults : List Event) → now.entries ≡ ledger.entries → IsFaultOrNone ledger session faults → IsFaultOrNone now session faults
or_none ledger now session faults e f =
    subst (λ (es : List Entry). (faults ≡ []) ⊎ (faults ≡ Noted (record { session = session; kind = Fault; after = length es }) ∷ [])) (sym e) f

module _ {D : Type 0} (moment : D → Moment) (p : Prepared) (t n : Standing D) where
  abbrev the_commit : Event
  the_commit = Acknowledged (entry_of p) (moment n.disk).state.moment (made_by p)

  sealed_by : Rose (moment t.disk).state.faults (moment n.disk).state.faults ⊎ (¬ Rose (moment t.disk).state.faults (moment n.disk).state.faults) →
      n.ledger.entries ≡ (sealed_ledger t p).entries → AddsCommit moment p t n → Ends p.session (the_commit ∷ []) (sealed_ledger t p).entries t n
  sealed_by (inl rose) e a = record {
    faults = fault_events (sealed_ledger t p) p.session;
    fault = or_none (sealed_ledger t p) n.ledger p.session (fault_events (sealed_ledger t p) p.session) e (faults_are (sealed_ledger t p) p.session);
    adds = a.rose rose;
    entries_are = e;
  }
  sealed_by (inr still) e a = record { faults = []; fault = inl refl; adds = a.still still; entries_are = e }

  pub sealed_ends : NotesFault (moment t.disk).state (moment n.disk).state p.session (sealed_ledger t p) n.ledger → AddsCommit moment p t n →
      Ends p.session (the_commit ∷ []) (sealed_ledger t p).entries t n
  sealed_ends noted a =
      sealed_by (rose_or_not (moment t.disk).state.faults (moment n.disk).state.faults)
      (noted_entries (moment t.disk).state (moment n.disk).state p.session (sealed_ledger t p) n.ledger noted) a

  stopped_by : Rose (moment t.disk).state.faults (moment n.disk).state.faults ⊎ (¬ Rose (moment t.disk).state.faults (moment n.disk).state.faults) →
      n.ledger.entries ≡ t.ledger.entries → AddsFault moment p.session t n → Ends p.session [] t.ledger.entries t n
  stopped_by (inl rose) e a = record {
    faults = fault_events t.ledger p.session;
    fault = or_none t.ledger n.ledger p.session (fault_events t.ledger p.session) e (faults_are t.ledger p.session);
    adds = a.rose rose;
    entries_are = e;
  }
  stopped_by (inr still) e a = record { faults = []; fault = inl refl; adds = a.still still; entries_are = e }

  pub stopped_ends : NotesFault (moment t.disk).state (moment n.disk).state p.session t.ledger n.ledger → AddsFault moment p.session t n → Ends p.session [] t.ledger.entries t n
  stopped_ends noted a =
      stopped_by (rose_or_not (moment t.disk).state.faults (moment n.disk).state.faults)
      (noted_entries (moment t.disk).state (moment n.disk).state p.session t.ledger n.ledger noted) a
