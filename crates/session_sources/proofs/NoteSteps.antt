-- One more turn of a session under its pin, which notes a fault or nothing.
use Rattle.std.proofs.Common.{◌≡◌, ◌∙◌, ℕ, ◌⊎◌, inl, inr, Bool, true, false, not, ◌&&◌, cond, nat_eq, if◌then◌else◌, List, [], ◌∷◌, ◌++◌, None, Some, refl, ap, sym, subst, append-nil, arith}
use Rattle.std.proofs.lemmas.Bool.{eq-eqb}
use Rattle.turn_lock.specs.Owners.{is_owned_by, none_of}
use Rattle.afl_outside.specs.Counts.{Rose}
use Rattle.afl_outside.specs.Disk.{DiskState}
use Rattle.event_core.specs.declared.entry.Entry.{Entry}
use Rattle.event_core.specs.Allowed.{is_pinned}
use Rattle.event_core.specs.History.{pin_before}
use Rattle.event_core.proofs.Tests.{both_not}
use Rattle.store_ledger.specs.declared.note.Note.{Note}
use Rattle.store_ledger.specs.declared.note.NoteKind.{NoteKind}
use Rattle.store_ledger.specs.declared.note.NoteKind.TheVariants.{Fault}
use Rattle.store_ledger.specs.declared.pinned.Pinned.{Pinned}
use Rattle.store_ledger.specs.Ledger.{LedgerState, history, is_fault, is_noted, is_tried, note_now, with_fault, with_notes, IsOpenPin}
use Rattle.store_ledger.proofs.Keeping.{pinned_of}
use Rattle.snapshot_manager.specs.Event.{Event}
use Rattle.snapshot_manager.specs.Event.TheVariants.{Noted}
use Rattle.snapshot_manager.specs.Events.{owner_of}
use Rattle.snapshot_manager.proofs.Ended.{fault_seen}
use Rattle.snapshot_manager.specs.Start.{Start}
use Rattle.snapshot_manager.specs.Growth.{fault_events}
use Rattle.snapshot_manager.specs.Told.{ledger_of}
use Rattle.snapshot_manager.specs.Turns.{found_before, own_events, AddsAtMostNote}
use Rattle.snapshot_manager.proofs.Notes.{more_ledger, notes_outlast, others_leave_notes}
use Rattle.snapshot_manager.proofs.Sights.{others_leave_pins, pins_outlast}
use Rattle.snapshot_manager.proofs.Turning.{turns_find}
use Rattle.session_sources.specs.Courses.{AddsAtMostFault, AddsOwn, IsFaultAtMost}
use Rattle.session_sources.specs.Laws.{FaultsAreOwn}
use Rattle.session_sources.proofs.CourseLaws.{courses_join, none_own}

-- what holds after one more turn, of what was added since the beginning, and of the notes
pub record Stepped {D : Type 0} (start : Start D) (session : ℕ) (first old new : List Event) : Type 0 where
  pub adds : AddsAtMostFault start session first new
  pub noted : is_noted is_fault (ledger_of start old) session ≡ true → is_noted is_fault (ledger_of start new) session ≡ true
  pub tried : is_noted is_tried (ledger_of start new) session ≡ is_noted is_tried (ledger_of start old) session

pub at_most_later : (ledger later : LedgerState) (session : ℕ) (own : List Event) →
    (is_noted is_fault ledger session ≡ true → is_noted is_fault later session ≡ true) → IsFaultAtMost ledger session own → IsFaultAtMost later session own
at_most_later ledger later session own more (inl none) = inl none
at_most_later ledger later session own more (inr one) = inr (record { after = one.after; is = one.is; noted = more one.noted })

pub no_try : (b : Bool) → not (b && false) ≡ true
no_try true = refl
no_try false = refl

kept_own : (b : Bool) (event : Event) → b ≡ true → cond b (event ∷ []) [] ≡ event ∷ []
kept_own true event e = refl
kept_own false event e = absurd (both_not false refl e)

pub one_own : (session : ℕ) (note : Note) → note.session ≡ session → own_events session (Noted note ∷ []) ≡ Noted note ∷ []
one_own session note e = kept_own (is_owned_by (owner_of (Noted note)) session) (Noted note) (eq-eqb note.session session e)

-- ---- the note of a fault is seen under the session's pin

noted_now : (ledger : LedgerState) (session : ℕ) → is_pinned session (history ledger) ≡ true → is_noted is_fault (with_fault session ledger) session ≡ true
noted_now ledger session pinned =
    let whole : DiskState = record { name = None; first = None; seen = None; honest = true; moment = 0; faults = 0; wants = 0 } in
    let failed : DiskState = record { name = None; first = None; seen = None; honest = true; moment = 0; faults = 1; wants = 0 } in
    let rose : Rose 0 1 = omega arith in
    fault_seen whole failed session ledger (with_fault session ledger) pinned (record { rose = λ r. refl; still = λ same. absurd (same rose) }) rose

fault_noted : {D : Type 0} (start : Start D) (found : List Event) (session : ℕ) → is_pinned session (history (ledger_of start found)) ≡ true →
    is_noted is_fault (ledger_of start found) session ≡ false →
    is_noted is_fault (ledger_of start (found ++ Noted (note_now Fault (ledger_of start found) session) ∷ [])) session ≡ true
fault_noted start found session pinned free =
    let ledger : LedgerState = ledger_of start found in
    let note : Note = note_now Fault ledger session in
    ap (λ (l : LedgerState). is_noted is_fault l session)
    (more_ledger start found (Noted note ∷ [])
    ∙ ap (λ (es : List Entry). record ledger { entries = es; notes = ledger.notes ++ note ∷ [] }) (append-nil ledger.entries)
    ∙ sym (ap (λ (b : Bool). if b then ledger else with_notes (note ∷ []) ledger) free))
    ∙ noted_now ledger session pinned

pub faults_are_own : FaultsAreOwn
faults_are_own ledger session own (inl none) = ap (own_events session) none ∙ sym none
faults_are_own ledger session own (inr one) =
    ap (own_events session) one.is ∙ one_own session (record { session = session; kind = Fault; after = one.after }) refl ∙ sym one.is

module _ {D : Type 0} (start : Start D) (session : ℕ) (first : List Event) where
  -- ---- others alone

  quiet : (kinds : NoteKind → Bool) (old others new : List Event) → none_of owner_of session others ≡ true → new ≡ old ++ others →
      is_noted kinds (ledger_of start new) session ≡ is_noted kinds (ledger_of start old) session
  quiet kinds old others new theirs e =
      ap (λ (es : List Event). is_noted kinds (ledger_of start es) session) e
      ∙ notes_outlast D start old others session kinds (others_leave_notes kinds session others theirs)

  pub step_quiet : (old others new : List Event) → AddsAtMostFault start session first old → none_of owner_of session others ≡ true → new ≡ old ++ others →
      Stepped start session first old new
  step_quiet old others new a theirs e =
      let same : is_noted is_fault (ledger_of start new) session ≡ is_noted is_fault (ledger_of start old) session = quiet is_fault old others new theirs e in
      let more : AddsOwn session [] old new = record { more = others; grown = e; mine = none_own session others theirs } in
      record {
        adds = record {
          own = a.own;
          adds = subst (λ (es : List Event). AddsOwn session es first new) (append-nil a.own) (courses_join session a.own [] first old new a.adds more);
          note = at_most_later (ledger_of start old) (ledger_of start new) session a.own (λ was. same ∙ was) a.note;
        };
        noted = λ was. same ∙ was;
        tried = quiet is_tried old others new theirs e;
      }

  -- ---- a fault

  first_fault : (found new : List Event) (note : Note) (own : List Event) → AddsOwn session own first found → IsFaultAtMost (ledger_of start found) session own →
      is_noted is_fault (ledger_of start found) session ≡ false → note.session ≡ session → note ≡ note_now Fault (ledger_of start found) session →
      new ≡ found ++ Noted note ∷ [] → is_noted is_fault (ledger_of start new) session ≡ true → AddsAtMostFault start session first new
  first_fault found new note own a (inl none) free mine is e noted = record {
    own = Noted note ∷ [];
    adds = subst (λ (es : List Event). AddsOwn session es first new) (ap (λ (es : List Event). es ++ Noted note ∷ []) none)
        (courses_join session own (Noted note ∷ []) first found new a (record { more = Noted note ∷ []; grown = e; mine = one_own session note mine }));
    note = inr (record { after = (note_now Fault (ledger_of start found) session).after; is = ap (λ (n : Note). Noted n ∷ []) is; noted = noted });
  }
  first_fault found new note own a (inr one) free mine is e noted = absurd (both_not (is_noted is_fault (ledger_of start found) session) free one.noted)

  module _ (pinned : Pinned) (mine : pinned.session ≡ session) (old others new : List Event) (a : AddsAtMostFault start session first old)
      (theirs : none_of owner_of session others ≡ true) (o : IsOpenPin (ledger_of start old) pinned) where
    found_open : IsOpenPin (ledger_of start (old ++ others)) pinned
    found_open =
        pins_outlast D start old others pinned
        (others_leave_pins pinned.session others (subst (λ (n : ℕ). none_of owner_of n others ≡ true) (sym mine) theirs)) o

    begun_found : pin_before session (history (ledger_of start (old ++ others))) ≡ Some found_open.before
    begun_found = ap (λ (n : ℕ). pin_before n (history (ledger_of start (old ++ others)))) (sym mine) ∙ found_open.begun

    step_by : (b : Bool) → is_noted is_fault (ledger_of start (old ++ others)) session ≡ b →
        new ≡ (old ++ others) ++ (if b then [] else Noted (note_now Fault (ledger_of start (old ++ others)) session) ∷ []) →
        Stepped start session first old new
    step_by true was e = step_quiet old others new a theirs (e ∙ append-nil (old ++ others))
    step_by false was e =
        let found : List Event = old ++ others in
        let note : Note = note_now Fault (ledger_of start found) session in
        let still : Stepped start session first old found = step_quiet old others found a theirs refl in
        let noted : is_noted is_fault (ledger_of start new) session ≡ true =
        ap (λ (es : List Event). is_noted is_fault (ledger_of start es) session) e
        ∙ fault_noted start found session (pinned_of session (history (ledger_of start found)) found_open.before begun_found) was in
        record {
          adds = first_fault found new note still.adds.own still.adds.adds still.adds.note was refl refl e noted;
          noted = λ before. noted;
          tried = ap (λ (es : List Event). is_noted is_tried (ledger_of start es) session) e
              ∙ notes_outlast D start found (Noted note ∷ []) session is_tried (ap (λ (b : Bool). b && true) (no_try (nat_eq session session)))
              ∙ still.tried;
        }

    stepped_fault : (own : List Event) → own ≡ fault_events (ledger_of start (old ++ others)) session → new ≡ (old ++ others) ++ own → Stepped start session first old new
    stepped_fault own is e =
        step_by (is_noted is_fault (ledger_of start (old ++ others)) session) refl (e ∙ ap (λ (es : List Event). (old ++ others) ++ es) is)

    stepped_by : (own : List Event) → (own ≡ []) ⊎ (own ≡ fault_events (ledger_of start (old ++ others)) session) → new ≡ (old ++ others) ++ own → Stepped start session first old new
    stepped_by own (inl none) e = step_quiet old others new a theirs (e ∙ ap (λ (es : List Event). (old ++ others) ++ es) none ∙ append-nil (old ++ others))
    stepped_by own (inr is) e = stepped_fault own is e

  -- ONE MORE TURN
  pub stepped : (pinned : Pinned) (mine : pinned.session ≡ session) (old new : List Event) → AddsAtMostFault start session first old → IsOpenPin (ledger_of start old) pinned →
      AddsAtMostNote start session old new → Stepped start session first old new
  stepped pinned mine old new a o n =
      let found : found_before n.own new ≡ old ++ n.adds.others = turns_find session n.own old new n.adds in
      stepped_by pinned mine old n.adds.others new a n.adds.theirs o n.own
      (subst (λ (es : List Event). (n.own ≡ []) ⊎ (n.own ≡ fault_events (ledger_of start es) session)) found n.note) n.adds.grown
