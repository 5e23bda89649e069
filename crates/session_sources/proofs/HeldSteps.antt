-- The calls of a held source.
use Rattle.std.proofs.Common.{◌≡◌, ◌∙◌, ◌≢◌, ℕ, ◌<◌, ◌≤◌, ◌⊎◌, inl, inr, Bool, true, false, ◌&&◌, nat_eq, if◌then◌else◌, List, [], ◌∷◌, ◌++◌, length, slice_index, Option, None, Some, IfSome, IsSomeAnd, Result, Ok, Err, IfOk, IfErr, IsTrue, refl, ap, sym, subst, arith, append-nil}
use Rattle.std.proofs.lemmas.Bool.{eq-eqb}
use Rattle.arrayvec.specs.ArrayVec.{ArrayVec}
use Rattle.cell_values.specs.declared.schema.Schema.{Schema}
use Rattle.afl_outside.specs.Counts.{Rose}
use Rattle.afl_outside.specs.Disk.{DiskState, Moment}
use Rattle.logical_plan.specs.Meaning.{Database as Rows}
use Rattle.logical_plan.specs.declared.parts.Leaf.{Leaf}
use Rattle.chunk_map.specs.declared.directory.DirEntry.{DirEntry}
use Rattle.chunk_source.specs.Source.{is_among, listed, Keeps, Reads}
use Rattle.plan_changes.specs.Databases.{Database, rows_of}
use Rattle.event_core.specs.declared.entry.Entry.{Entry}
use Rattle.event_core.specs.Allowed.{is_pinned}
use Rattle.event_core.proofs.Tests.{both_not}
use Rattle.turn_lock.specs.Owners.{only_of}
use Rattle.turn_lock.specs.Inner.Lent.{turn_with}
use Rattle.turn_lock.specs.declared.turns.seat.Turn.{Turn}
use Rattle.store_ledger.specs.declared.note.Note.{Note}
use Rattle.store_ledger.specs.declared.note.NoteKind.TheVariants.{Fault}
use Rattle.store_ledger.specs.Ledger.{LedgerState, history, is_fault, is_noted, is_tried, note_now, with_notes}
use Rattle.store_ledger.proofs.Pins.{notes_outlast}
use Rattle.snapshot_manager.specs.Event.{Event}
use Rattle.snapshot_manager.specs.Event.TheVariants.{Noted}
use Rattle.snapshot_manager.specs.ReadFault.{ReadFault}
use Rattle.snapshot_manager.specs.ReadFault.TheVariants.{Disk, Damaged, Memory}
use Rattle.snapshot_manager.specs.StoreParts.{StoreParts}
use Rattle.snapshot_manager.specs.At.{standing}
use Rattle.snapshot_manager.specs.Calls.{chunks_at, payload_at, IsLeafOf, IsUnread, NotesFault}
use Rattle.snapshot_manager.specs.Events.{events, owner_of}
use Rattle.snapshot_manager.specs.Payloads.{HasTold, WasDamagedAt}
use Rattle.snapshot_manager.specs.Standings.{Standing, database_at, BeganAs}
use Rattle.snapshot_manager.specs.Growth.{AddsEvents, AddsFault}
use Rattle.snapshot_manager.specs.Starts.{start_of}
use Rattle.snapshot_manager.proofs.Ended.{fault_seen, rose_or_not}
use Rattle.snapshot_manager.specs.Seats.{store_of}
use Rattle.session_sources.specs.declared.holding.Holding.{Holding}
use Rattle.session_sources.specs.declared.holding.LentTurn.{LentTurn}
use Rattle.session_sources.specs.declared.marks.Marks.{Marks}
use Rattle.session_sources.specs.Courses.{IsFaultAtMost}
use Rattle.session_sources.specs.Held.{held_state, holding_of, names_now, store_then, unheld, GrowsByFault, HasHeld}
use Rattle.session_sources.specs.Inner.Marking.{marks_after, no_marks}
use Rattle.session_sources.specs.Stored.{numbers_at, AreRowsAfter, BeginsDamage}
use Rattle.session_sources.proofs.Answering.{with_asked}
use Rattle.session_sources.proofs.NoteSteps.{at_most_later, no_try}
use Rattle.session_sources.proofs.VersionLaws.{leaf_listed, leaf_unless}

abbrev pub holding : {D : Type 0} → LentTurn D → Turn (StoreParts D) → Marks → Holding D
holding lent turn marks = record { lent = lent; turn = turn; marks = marks }

abbrev pub lent_of : {D : Type 0} → ℕ → Turn (StoreParts D) → LentTurn D
lent_of session turn = record { turn = turn; session = session }

-- a store with another disk and other notes
abbrev pub moved : {D : Type 0} → Standing D → D → List Note → Standing D
moved s disk notes = record s { disk = disk; ledger = record s.ledger { notes = notes } }

-- ---- a read in a turn

-- nothing but the disk and the notes has changed, and of these the note of one fault came at most
pub record Holds {D : Type 0} (session : ℕ) (s t : Standing D) : Type 0 where
  pub same : t ≡ moved s t.disk t.ledger.notes
  pub adds : GrowsByFault t.ledger session (events s) (events t)
  pub tried : is_noted is_tried t.ledger session ≡ is_noted is_tried s.ledger session

-- after one more read
pub record HoldsOn {D : Type 0} (session : ℕ) (s t u : Standing D) : Type 0 where
  pub holds : Holds session s u
  pub noted : is_noted is_fault t.ledger session ≡ true → is_noted is_fault u.ledger session ≡ true

own_fault : (ledger : LedgerState) (session : ℕ) (own : List Event) → IsFaultAtMost ledger session own → only_of owner_of session own ≡ true
own_fault ledger session own (inl none) = ap (only_of owner_of session) none
own_fault ledger session own (inr one) = ap (only_of owner_of session) one.is ∙ ap (λ (b : Bool). b && true) (eq-eqb session session refl)

-- the note of a fault is no attempt
not_tried : (ledger : LedgerState) (session : ℕ) → is_noted is_tried (with_notes (note_now Fault ledger session ∷ []) ledger) session ≡ is_noted is_tried ledger session
not_tried ledger session =
    let note : Note = note_now Fault ledger session in
    ap (λ (es : List Entry). is_noted is_tried (record ledger { entries = es; notes = ledger.notes ++ note ∷ [] }) session) (sym (append-nil ledger.entries))
    ∙ notes_outlast ledger session is_tried [] (note ∷ []) refl (ap (λ (b : Bool). b && true) (no_try (nat_eq session session)))

module _ {D : Type 0} (moment : D → Moment) (session : ℕ) (s t u : Standing D) (w : Holds session s t)
    (others : u ≡ record t { disk = u.disk; ledger = u.ledger }) where
  moved_on : (notes : List Note) → u.ledger ≡ record t.ledger { notes = notes } → u ≡ moved s u.disk u.ledger.notes
  moved_on notes e =
      others
      ∙ ap (λ (l : LedgerState). record t { disk = u.disk; ledger = l }) (e ∙ ap (λ (ns : List Note). record t.ledger { notes = ns }) (sym (ap (λ (l : LedgerState). l.notes) e)))
      ∙ ap (λ (x : Standing D). record x { disk = u.disk; ledger = record x.ledger { notes = u.ledger.notes } }) w.same

  quiet : u.ledger ≡ t.ledger → AddsEvents [] t u → HoldsOn session s t u
  quiet e a =
      let same : is_noted is_fault u.ledger session ≡ is_noted is_fault t.ledger session = ap (λ (l : LedgerState). is_noted is_fault l session) e in
      record {
        holds = record {
          same = moved_on t.ledger.notes e;
          adds = record {
            own = w.adds.own;
            grown = a.grown ∙ append-nil (events t) ∙ w.adds.grown;
            note = at_most_later t.ledger u.ledger session w.adds.own (λ was. same ∙ was) w.adds.note;
          };
          tried = ap (λ (l : LedgerState). is_noted is_tried l session) e ∙ w.tried;
        };
        noted = λ was. same ∙ was;
      }

  first_fault : (note : Note) → note ≡ note_now Fault t.ledger session → (own : List Event) → events t ≡ events s ++ own → IsFaultAtMost t.ledger session own →
      is_noted is_fault t.ledger session ≡ false → events u ≡ events t ++ Noted note ∷ [] → is_noted is_fault u.ledger session ≡ true →
      GrowsByFault u.ledger session (events s) (events u)
  first_fault note is own grown (inl none) free e noted = record {
    own = Noted note ∷ [];
    grown = e ∙ ap (λ (es : List Event). es ++ Noted note ∷ []) (grown ∙ ap (λ (es : List Event). events s ++ es) none ∙ append-nil (events s));
    note = inr (record { after = (note_now Fault t.ledger session).after; is = ap (λ (n : Note). Noted n ∷ []) is; noted = noted });
  }
  first_fault note is own grown (inr one) free e noted = absurd (both_not (is_noted is_fault t.ledger session) free one.noted)

  fault_by : (b : Bool) → is_noted is_fault t.ledger session ≡ b → u.ledger ≡ (if b then t.ledger else with_notes (note_now Fault t.ledger session ∷ []) t.ledger) →
      AddsEvents (if b then [] else Noted (note_now Fault t.ledger session) ∷ []) t u → is_noted is_fault u.ledger session ≡ true → HoldsOn session s t u
  fault_by true was e a noted = quiet e a
  fault_by false was e a noted =
      let note : Note = note_now Fault t.ledger session in
      record {
        holds = record {
          same = moved_on (t.ledger.notes ++ note ∷ []) e;
          adds = first_fault note refl w.adds.own w.adds.grown w.adds.note was a.grown noted;
          tried = ap (λ (l : LedgerState). is_noted is_tried l session) e ∙ not_tried t.ledger session ∙ w.tried;
        };
        noted = λ before. noted;
      }

  module _ (pinned : is_pinned session (history t.ledger) ≡ true) (adds : AddsFault moment session t u)
      (notes : NotesFault (moment t.disk).state (moment u.disk).state session t.ledger u.ledger) where
    held_by : Rose (moment t.disk).state.faults (moment u.disk).state.faults ⊎ (¬ Rose (moment t.disk).state.faults (moment u.disk).state.faults) → HoldsOn session s t u
    held_by (inl rose) =
        fault_by (is_noted is_fault t.ledger session) refl (notes.rose rose) (adds.rose rose)
        (fault_seen (moment t.disk).state (moment u.disk).state session t.ledger u.ledger pinned notes rose)
    held_by (inr still) = quiet (notes.still still) (adds.still still)

    pub held_on : HoldsOn session s t u
    held_on = held_by (rose_or_not (moment t.disk).state.faults (moment u.disk).state.faults)

-- ---- what a call may ask

module _ {D : Type 0} (moment : D → Moment) (h : Holding D) (leaf : Leaf) where
  pub listed_leaf : ¬ (leaf.version ≡ 0) → Reads (held_state moment h) leaf → IsLeafOf (names_now (store_then moment h).ledger) leaf
  listed_leaf some e = leaf_unless (names_now (store_then moment h).ledger) leaf some e

  pub chunk_leaf : (k : ArrayVec ℕ) → IsTrue (is_among k (listed (held_state moment h) leaf)) → Reads (held_state moment h) leaf → IsLeafOf (names_now (store_then moment h).ledger) leaf
  chunk_leaf k among e =
      leaf_listed (names_now (store_then moment h).ledger) leaf (numbers_at (store_then moment h) (length (store_then moment h).ledger.entries)) k among e

-- ---- before the first call

pub begins : {D : Type 0} (moment : D → Moment) (lent : LentTurn D) → IsTrue (is_pinned lent.session (history (store_of lent.turn).ledger)) →
    HasHeld moment (holding lent lent.turn no_marks)
begins moment lent pinned =
    let none : events (standing moment (store_of lent.turn)) ≡ events (standing moment (store_of lent.turn)) ++ [] = sym (append-nil (events (standing moment (store_of lent.turn)))) in
    record {
      pinned = pinned;
      turn = λ seat has. has;
      same = refl;
      start = refl;
      adds = record { own = []; grown = none; note = inl refl };
      extends = ([], none, refl);
      faults = λ some. absurd (omega (arith, some));
      tried = refl;
      damaged = tt;
      whole = λ db began. refl;
    }

pub begins_at : {D : Type 0} (moment : D → Moment) (session : ℕ) (before turn : Turn (StoreParts D)) (marks : Marks) → before ≡ turn → marks ≡ no_marks →
    IsTrue (is_pinned session (history (store_of turn).ledger)) → HasHeld moment (holding_of session before turn marks)
begins_at {D} moment session before turn marks e f pinned =
    subst (λ (m : Marks). HasHeld moment (holding_of session before turn m)) (sym f)
    (subst (λ (b : Turn (StoreParts D)). HasHeld moment (holding_of session b turn no_marks)) (sym e)
    (begins moment (lent_of session turn) pinned))

pub is_unheld : {D : Type 0} (session : ℕ) (before turn : Turn (StoreParts D)) (marks : Marks) → before ≡ turn → marks ≡ no_marks →
    holding_of session before turn marks ≡ unheld session turn
is_unheld {D} session before turn marks e f =
    ap (λ (b : Turn (StoreParts D)). holding_of session b turn marks) e ∙ ap (λ (m : Marks). holding_of session turn turn m) f

first_page : (old new : DiskState) (schema : Schema) (page : ℕ) (o : Option DirEntry) → IsUnread old new schema o (Damaged page) → IsSomeAnd o (λ entry. page ≡ slice_index entry.pages 0)
first_page old new schema page None e = absurd e
first_page old new schema page (Some entry) e = e.0

-- ---- over a reading

module _ {D : Type 0} (moment : D → Moment) (lent : LentTurn D) (turn : Turn (StoreParts D)) (marks : Marks) (was : HasHeld moment (holding lent turn marks)) where
  -- the value in hand is the turn's
  pub in_hand : (parts : StoreParts D) → parts ≡ store_of turn → HasHeld moment (holding lent (turn_with turn parts) marks)
  in_hand parts e = subst (λ (p : StoreParts D). HasHeld moment (holding lent (turn_with turn p) marks)) (sym e) was

module _ {D : Type 0} (moment : D → Moment) (lent : LentTurn D) (turn : Turn (StoreParts D)) (parts : StoreParts D) (marks : Marks)
    (was : HasHeld moment (holding lent (turn_with turn parts) marks)) where
  pub leaf_now : (leaf : Leaf) → IsLeafOf (names_now (standing moment (store_of lent.turn)).ledger) leaf → IsLeafOf (names_now parts.ledger) leaf
  leaf_now leaf = subst (λ (x : Standing D). IsLeafOf (names_now x.ledger) leaf) (sym was.same)

  pub pinned_now : IsTrue (is_pinned lent.session (history parts.ledger))
  pinned_now = subst (λ (x : Standing D). IsTrue (is_pinned lent.session (history x.ledger))) (sym was.same) was.pinned

  pub chunks_then : (leaf : Leaf) → chunks_at (standing moment parts) (length parts.ledger.entries) leaf
      ≡ chunks_at (standing moment (store_of lent.turn)) (length (store_of lent.turn).ledger.entries) leaf
  chunks_then leaf = ap (λ (x : Standing D). chunks_at x (length x.ledger.entries) leaf) was.same

  payload_then : (leaf : Leaf) (k : ArrayVec ℕ) → payload_at (standing moment parts) (length parts.ledger.entries) leaf k
      ≡ payload_at (standing moment (store_of lent.turn)) (length (store_of lent.turn).ledger.entries) leaf k
  payload_then leaf k = ap (λ (x : Standing D). payload_at x (length x.ledger.entries) leaf k) was.same

  pub rows_then : (P : Rows → Type 0) → ((db : Database) → BeganAs (moment parts.opened.value.disk).state db → P (rows_of (database_at db (standing moment parts)))) →
      (rows : Rows) → AreRowsAfter moment (standing moment (store_of lent.turn)) (history (store_of lent.turn).ledger) rows → P rows
  rows_then P holds rows a =
      subst P (sym a.is)
      (subst (λ (x : Standing D). P (rows_of (database_at a.db x))) was.same
      (holds a.db (subst (λ (x : Standing D). BeganAs (moment x.opened.disk).state a.db) (sym was.same) a.began)))

  pub told_then : {A F : Type 0} (P : A → Rows → Type 0) (answer : Result A F) →
      IfOk answer (λ value. (db : Database) → BeganAs (moment parts.opened.value.disk).state db → P value (rows_of (database_at db (standing moment parts)))) →
      IfOk answer (λ value. (rows : Rows) → AreRowsAfter moment (standing moment (store_of lent.turn)) (history (store_of lent.turn).ledger) rows → P value rows)
  told_then P (Ok value) holds = λ rows a. rows_then (P value) holds rows a
  told_then P (Err fault) holds = tt

  -- one more read
  module _ (next : StoreParts D) (others : standing moment next ≡ record (standing moment parts) { disk = next.file.disk; ledger = next.ledger })
      (adds : AddsFault moment lent.session (standing moment parts) (standing moment next))
      (notes : NotesFault (moment parts.file.disk).state (moment next.file.disk).state lent.session parts.ledger next.ledger) where
    step : HoldsOn lent.session (standing moment (store_of lent.turn)) (standing moment parts) (standing moment next)
    step =
        held_on moment lent.session (standing moment (store_of lent.turn)) (standing moment parts) (standing moment next)
        (record { same = was.same; adds = was.adds; tried = was.tried }) others pinned_now adds notes

    keeps : (made : Marks) → (0 < made.faults → IsTrue (is_noted is_fault next.ledger lent.session)) →
        IfSome made.damaged (BeginsDamage moment (names_now (store_of lent.turn).ledger) (standing moment (store_of lent.turn)) (length (store_of lent.turn).ledger.entries)) →
        ((db : Database) → BeganAs (moment (store_of lent.turn).opened.value.disk).state db → made.damaged ≡ None) → HasHeld moment (holding lent (turn_with turn next) made)
    keeps made faults damaged whole = record {
      pinned = was.pinned;
      turn = λ seat has. was.turn seat has;
      same = step.holds.same;
      start = ap start_of step.holds.same;
      adds = step.holds.adds;
      extends = (step.holds.adds.own, step.holds.adds.grown, own_fault next.ledger lent.session step.holds.adds.own step.holds.adds.note);
      faults = faults;
      tried = step.holds.tried;
      damaged = damaged;
      whole = whole;
    }

    module _ {A : Type 0} (number : ℕ) (leaf : Leaf) (k : ArrayVec ℕ) (of : IsLeafOf (names_now (store_of lent.turn).ledger) leaf)
        (among : IsTrue (is_among k (chunks_at (standing moment (store_of lent.turn)) (length (store_of lent.turn).ledger.entries) leaf))) where
      abbrev IsCause : Result A ReadFault → Type 0
      IsCause answer = IfErr answer (IsUnread (moment parts.file.disk).state (moment next.file.disk).state leaf.schema
          (payload_at (standing moment parts) (length parts.ledger.entries) leaf k))

      abbrev IsWhole : Result A ReadFault → Type 0
      IsWhole answer = (db : Database) (page : ℕ) → BeganAs (moment parts.opened.value.disk).state db → answer ≢ Err (Damaged page)

      abbrev WasDamaged : Result A ReadFault → Type 0
      WasDamaged answer = (page : ℕ) (file : List ℕ) → answer ≡ Err (Damaged page) → HasTold (moment parts.opened.value.disk).state file →
          WasDamagedAt page (standing moment parts).first file leaf.schema

      noted : (answer : Result A ReadFault) → IsCause answer → 0 < (marks_after answer (with_asked number k marks)).faults → IsTrue (is_noted is_fault next.ledger lent.session)
      noted (Ok value) cause some = step.noted (was.faults some)
      noted (Err Disk) cause some = fault_seen (moment parts.file.disk).state (moment next.file.disk).state lent.session parts.ledger next.ledger pinned_now notes cause
      noted (Err (Damaged page)) cause some = step.noted (was.faults some)
      noted (Err Memory) cause some = step.noted (was.faults some)

      spoiled : (answer : Result A ReadFault) → IsCause answer → WasDamaged answer → IfSome (marks_after answer (with_asked number k marks)).damaged
          (BeginsDamage moment (names_now (store_of lent.turn).ledger) (standing moment (store_of lent.turn)) (length (store_of lent.turn).ledger.entries))
      spoiled (Ok value) cause old = was.damaged
      spoiled (Err Disk) cause old = was.damaged
      spoiled (Err (Damaged page)) cause old = record {
        leaf = leaf;
        number = k;
        of = of;
        listed = among;
        begins = subst (λ (o : Option DirEntry). IsSomeAnd o (λ entry. page ≡ slice_index entry.pages 0)) (payload_then leaf k)
            (first_page (moment parts.file.disk).state (moment next.file.disk).state leaf.schema page (payload_at (standing moment parts) (length parts.ledger.entries) leaf k) cause);
        was = λ file tells. subst (λ (x : Standing D). WasDamagedAt page x.first file leaf.schema) was.same
            (old page file refl (subst (λ (x : Standing D). HasTold (moment x.opened.disk).state file) (sym was.same) tells));
      }
      spoiled (Err Memory) cause old = was.damaged

      none_spoiled : (answer : Result A ReadFault) → IsWhole answer → (db : Database) → BeganAs (moment (store_of lent.turn).opened.value.disk).state db →
          (marks_after answer (with_asked number k marks)).damaged ≡ None
      none_spoiled (Ok value) whole db began = was.whole db began
      none_spoiled (Err Disk) whole db began = was.whole db began
      none_spoiled (Err (Damaged page)) whole db began =
          absurd (whole db page (subst (λ (x : Standing D). BeganAs (moment x.opened.disk).state db) (sym was.same) began) refl)
      none_spoiled (Err Memory) whole db began = was.whole db began

      -- A CHUNK WAS READ
      pub read_keeps : (answer : Result A ReadFault) (made : Marks) → made ≡ marks_after answer (with_asked number k marks) → IsCause answer → WasDamaged answer → IsWhole answer →
          HasHeld moment (holding lent (turn_with turn next) made)
      read_keeps answer made e cause old whole =
          subst (λ (m : Marks). HasHeld moment (holding lent (turn_with turn next) m)) (sym e)
          (keeps (marks_after answer (with_asked number k marks)) (noted answer cause) (spoiled answer cause old) (none_spoiled answer whole))

-- ---- what is said of a call

-- what the turn and the marks are besides, the source is the same
pub keeps_source : {D : Type 0} (moment : D → Moment) (lent : LentTurn D) (before after : Turn (StoreParts D)) (marks next : Marks) → marks.faults ≤ next.faults →
    Keeps (held_state moment (holding lent before marks)) (held_state moment (holding lent after next))
keeps_source moment lent before after marks next e = record { stored = refl; chunks = refl; tells = λ db. (λ t. t, λ t. t); later = e }
