-- The calls of a pinned source.
use Rattle.std.proofs.Common.{◌≡◌, ◌∙◌, ◌≢◌, ℕ, ◌+◌, ◌-◌, ◌^◌, ◌<◌, ◌≤◌, min, inl, List, [], length, slice_index, Option, None, IfSome, IsSomeAnd, Result, Ok, Err, IfOk, IfErr, IsTrue, refl, ap, sym, subst, arith, append-nil}
use Rattle.arrayvec.specs.ArrayVec.{ArrayVec}
use Rattle.afl_outside.specs.Counts.{risen}
use Rattle.afl_outside.specs.Disk.{Moment}
use Rattle.logical_plan.specs.Meaning.{Database as Rows}
use Rattle.logical_plan.specs.declared.parts.Leaf.{Leaf}
use Rattle.chunk_map.specs.declared.directory.DirEntry.{DirEntry}
use Rattle.chunk_source.specs.Source.{is_among, listed, Keeps, Reads}
use Rattle.plan_changes.specs.Databases.{Database, rows_of}
use Rattle.event_core.specs.Cells.{at}
use Rattle.event_core.specs.History.{History}
use Rattle.store_ledger.specs.declared.pinned.Pinned.{Pinned}
use Rattle.store_ledger.specs.Ledger.{is_fault, is_noted}
use Rattle.snapshot_manager.specs.Event.{Event}
use Rattle.snapshot_manager.specs.ReadFault.{ReadFault}
use Rattle.snapshot_manager.specs.ReadFault.TheVariants.{Disk, Damaged, Memory}
use Rattle.snapshot_manager.specs.Calls.{chunks_at, database_with, history_at, payload_at, IsLeafOf}
use Rattle.snapshot_manager.specs.Payloads.{HasTold, WasDamagedAt}
use Rattle.snapshot_manager.specs.Standings.{BeganAs}
use Rattle.snapshot_manager.specs.Start.{Start}
use Rattle.snapshot_manager.specs.declared.seat.Seat.{Seat}
use Rattle.snapshot_manager.specs.declared.shared.Shared.{Shared}
use Rattle.snapshot_manager.specs.Faults.{IsUnreadUnder}
use Rattle.snapshot_manager.specs.ToldLaws.{SeesTheSame}
use Rattle.snapshot_manager.specs.Seats.{ledger_seen, read_count, seen, session_of, start, store_seen, HoldsPin, IsIdle, IsSameSeat, IsSeatOf}
use Rattle.snapshot_manager.specs.Told.{told}
use Rattle.snapshot_manager.specs.Turns.{Adds, AddsAtMostNote}
use Rattle.snapshot_manager.proofs.Sights.{pins_see_the_same}
use Rattle.session_sources.specs.declared.marks.Marks.{Marks}
use Rattle.session_sources.specs.declared.reading.Lent.{Lent}
use Rattle.session_sources.specs.declared.reading.Reading.{Reading}
use Rattle.session_sources.specs.Inner.Marking.{marks_after, no_marks}
use Rattle.session_sources.specs.Pinned.{pinned_state, reading_of, store_lent, unread, HasRead}
use Rattle.session_sources.specs.Stored.{numbers_at, AreRowsAfter, BeginsDamage}
use Rattle.session_sources.proofs.Answering.{asked_count, one_counted, with_asked}
use Rattle.session_sources.proofs.NoteSteps.{stepped, Stepped}
use Rattle.session_sources.proofs.VersionLaws.{leaf_listed, leaf_unless}

abbrev pub reading : {D : Type 0} → Lent D → Seat D → Marks → Reading D
reading lent seat marks = record { lent = lent; seat = seat; marks = marks }

abbrev pub lent_of : {D : Type 0} → Shared D → Pinned → Seat D → Lent D
lent_of shared pinned seat = record { shared = shared; seat = seat; pinned = pinned }

-- ---- what a call may ask

module _ {D : Type 0} (moment : D → Moment) (r : Reading D) (leaf : Leaf) where
  pub listed_leaf : ¬ (leaf.version ≡ 0) → Reads (pinned_state moment r) leaf → IsLeafOf r.lent.pinned.names leaf
  listed_leaf some e = leaf_unless r.lent.pinned.names leaf some e

  pub chunk_leaf : (k : ArrayVec ℕ) → IsTrue (is_among k (listed (pinned_state moment r) leaf)) → Reads (pinned_state moment r) leaf → IsLeafOf r.lent.pinned.names leaf
  chunk_leaf k among e = leaf_listed r.lent.pinned.names leaf (numbers_at (store_lent moment r.lent) r.lent.pinned.place) k among e

-- ---- before the first call

pub begins : {D : Type 0} (moment : D → Moment) (lent : Lent D) → IsSeatOf lent.shared lent.seat × IsIdle lent.seat → HoldsPin moment lent.shared lent.seat lent.pinned →
    read_count lent.seat ≡ min (read_count lent.seat + 0) (2 ^ 64 - 1) → HasRead moment (reading lent lent.seat no_marks)
begins moment lent seat pin reads = record {
  lent = seat.0;
  lent_pin = pin;
  seat = seat;
  pin = pin;
  same = record { session = refl; last = refl };
  adds = record { own = []; adds = record { more = []; grown = sym (append-nil (seen lent.seat)); mine = refl }; note = inl refl };
  reads = reads;
  faults = λ some. absurd (omega (arith, some));
  tried = refl;
  damaged = tt;
  whole = λ db began. refl;
}

pub begins_at : {D : Type 0} (moment : D → Moment) (shared : Shared D) (pinned : Pinned) (before seat : Seat D) (marks : Marks) → before ≡ seat → marks ≡ no_marks →
    IsSeatOf shared seat × IsIdle seat → HoldsPin moment shared seat pinned → read_count seat ≡ min (read_count seat + 0) (2 ^ 64 - 1) →
    HasRead moment (reading_of shared pinned before seat marks)
begins_at {D} moment shared pinned before seat marks e f is pin reads =
    subst (λ (m : Marks). HasRead moment (reading_of shared pinned before seat m)) (sym f)
    (subst (λ (b : Seat D). HasRead moment (reading_of shared pinned b seat no_marks)) (sym e)
    (begins moment (lent_of shared pinned seat) is pin reads))

pub is_unread : {D : Type 0} (shared : Shared D) (pinned : Pinned) (before seat : Seat D) (marks : Marks) → before ≡ seat → marks ≡ no_marks →
    reading_of shared pinned before seat marks ≡ unread shared pinned seat
is_unread {D} shared pinned before seat marks e f =
    ap (λ (b : Seat D). reading_of shared pinned b seat marks) e ∙ ap (λ (m : Marks). reading_of shared pinned seat seat m) f

-- a turn that adds nothing adds no more than the note of a fault
pub adds_nothing : {D : Type 0} (start : Start D) (session : ℕ) (old new : List Event) → Adds session [] old new → AddsAtMostNote start session old new
adds_nothing start session old new adds = record { own = []; adds = adds; note = inl refl }

-- ---- over a reading

module _ {D : Type 0} (moment : D → Moment) (lent : Lent D) (before : Seat D) (marks : Marks) (was : HasRead moment (reading lent before marks)) where
  -- the pin sees what it saw as the seat was lent
  sees : SeesTheSame lent.pinned.place (store_lent moment lent) (store_seen moment lent.shared before)
  sees =
      subst (λ (es : List Event). SeesTheSame lent.pinned.place (store_lent moment lent) (told (start moment lent.shared) es)) (sym was.adds.adds.grown)
      (pins_see_the_same D (start moment lent.shared) (seen lent.seat) was.adds.adds.more lent.pinned was.lent.sealed was.lent_pin.open_pin)

  pub chunks_lent : (leaf : Leaf) → chunks_at (store_seen moment lent.shared before) lent.pinned.place leaf ≡ chunks_at (store_lent moment lent) lent.pinned.place leaf
  chunks_lent leaf = sees.chunks leaf

  pub rows_lent : (P : Rows → Type 0) →
      ((db : Database) → BeganAs (moment (start moment lent.shared).opened.disk).state db → P (rows_of (database_with db (store_seen moment lent.shared before) lent.pinned.place))) →
      (rows : Rows) → AreRowsAfter moment (store_lent moment lent) (history_at (store_lent moment lent) lent.pinned.place) rows → P rows
  rows_lent P holds rows a = subst P (sym a.is) (subst (λ (h : History). P (rows_of (at a.db h))) sees.history (holds a.db a.began))

  pub told_lent : {A F : Type 0} (P : A → Rows → Type 0) (answer : Result A F) →
      IfOk answer (λ value. (db : Database) → BeganAs (moment (start moment lent.shared).opened.disk).state db → P value (rows_of (database_with db (store_seen moment lent.shared before) lent.pinned.place))) →
      IfOk answer (λ value. (rows : Rows) → AreRowsAfter moment (store_lent moment lent) (history_at (store_lent moment lent) lent.pinned.place) rows → P value rows)
  told_lent P (Ok value) holds = λ rows a. rows_lent (P value) holds rows a
  told_lent P (Err fault) holds = tt

  -- one more turn
  module _ (after : Seat D) (seat : IsSeatOf lent.shared after × IsIdle after) (same : IsSameSeat before after)
      (adds : AddsAtMostNote (start moment lent.shared) (session_of before) (seen before) (seen after)) (pin : HoldsPin moment lent.shared after lent.pinned) where
    step : Stepped (start moment lent.shared) (session_of lent.seat) (seen lent.seat) (seen before) (seen after)
    step =
        stepped (start moment lent.shared) (session_of lent.seat) (seen lent.seat) lent.pinned was.lent_pin.own (seen before) (seen after) was.adds was.pin.open_pin
        (subst (λ (n : ℕ). AddsAtMostNote (start moment lent.shared) n (seen before) (seen after)) was.same.session adds)

    keeps : (next : Marks) → read_count after ≡ min (read_count lent.seat + length next.asked) (2 ^ 64 - 1) →
        (0 < next.faults → IsTrue (is_noted is_fault (ledger_seen moment lent.shared after) (session_of lent.seat))) →
        IfSome next.damaged (BeginsDamage moment lent.pinned.names (store_lent moment lent) lent.pinned.place) →
        ((db : Database) → BeganAs (moment (start moment lent.shared).opened.disk).state db → next.damaged ≡ None) → HasRead moment (reading lent after next)
    keeps next reads faults damaged whole = record {
      lent = was.lent;
      lent_pin = was.lent_pin;
      seat = seat;
      pin = pin;
      same = record { session = same.session ∙ was.same.session; last = same.last ∙ was.same.last };
      adds = step.adds;
      reads = reads;
      faults = faults;
      tried = step.tried ∙ was.tried;
      damaged = damaged;
      whole = whole;
    }

    pub list_keeps : read_count after ≡ read_count before → HasRead moment (reading lent after marks)
    list_keeps e = keeps marks (e ∙ was.reads) (λ some. step.noted (was.faults some)) was.damaged was.whole

    module _ {A : Type 0} (number : ℕ) (leaf : Leaf) (k : ArrayVec ℕ) (of : IsLeafOf lent.pinned.names leaf)
        (among : IsTrue (is_among k (chunks_at (store_lent moment lent) lent.pinned.place leaf))) where
      abbrev IsCause : Result A ReadFault → Type 0
      IsCause answer = IfErr answer (IsUnreadUnder (ledger_seen moment lent.shared after) (session_of before) (payload_at (store_seen moment lent.shared before) lent.pinned.place leaf k))

      abbrev WasDamaged : Result A ReadFault → Type 0
      WasDamaged answer = (page : ℕ) (file : List ℕ) → answer ≡ Err (Damaged page) → HasTold (moment (start moment lent.shared).opened.disk).state file →
          WasDamagedAt page (store_seen moment lent.shared before).first file leaf.schema

      noted : (answer : Result A ReadFault) → IsCause answer → 0 < (marks_after answer (with_asked number k marks)).faults →
          IsTrue (is_noted is_fault (ledger_seen moment lent.shared after) (session_of lent.seat))
      noted (Ok value) cause some = step.noted (was.faults some)
      noted (Err Disk) cause some = subst (λ (n : ℕ). IsTrue (is_noted is_fault (ledger_seen moment lent.shared after) n)) was.same.session cause
      noted (Err (Damaged page)) cause some = step.noted (was.faults some)
      noted (Err Memory) cause some = step.noted (was.faults some)

      spoiled : (answer : Result A ReadFault) → IsCause answer → WasDamaged answer →
          IfSome (marks_after answer (with_asked number k marks)).damaged (BeginsDamage moment lent.pinned.names (store_lent moment lent) lent.pinned.place)
      spoiled (Ok value) cause old = was.damaged
      spoiled (Err Disk) cause old = was.damaged
      spoiled (Err (Damaged page)) cause old = record {
        leaf = leaf;
        number = k;
        of = of;
        listed = among;
        begins = subst (λ (o : Option DirEntry). IsSomeAnd o (λ entry. page ≡ slice_index entry.pages 0)) (sees.payloads leaf k) cause;
        was = λ file tells. old page file refl tells;
      }
      spoiled (Err Memory) cause old = was.damaged

      none_spoiled : (answer : Result A ReadFault) → ((db : Database) (page : ℕ) → BeganAs (moment (start moment lent.shared).opened.disk).state db → answer ≢ Err (Damaged page)) →
          (db : Database) → BeganAs (moment (start moment lent.shared).opened.disk).state db → (marks_after answer (with_asked number k marks)).damaged ≡ None
      none_spoiled (Ok value) whole db began = was.whole db began
      none_spoiled (Err Disk) whole db began = was.whole db began
      none_spoiled (Err (Damaged page)) whole db began = absurd (whole db page began refl)
      none_spoiled (Err Memory) whole db began = was.whole db began

      -- A CHUNK WAS READ
      pub read_keeps : (answer : Result A ReadFault) (next : Marks) → next ≡ marks_after answer (with_asked number k marks) → IsCause answer → WasDamaged answer →
          ((db : Database) (page : ℕ) → BeganAs (moment (start moment lent.shared).opened.disk).state db → answer ≢ Err (Damaged page)) →
          read_count after ≡ risen (read_count before) → HasRead moment (reading lent after next)
      read_keeps answer next e cause old whole counted =
          let made : Marks = marks_after answer (with_asked number k marks) in
          let reads : read_count after ≡ min (read_count lent.seat + length made.asked) (2 ^ 64 - 1) =
          counted ∙ ap risen was.reads ∙ one_counted (read_count lent.seat) (length marks.asked)
          ∙ ap (λ (n : ℕ). min (read_count lent.seat + n) (2 ^ 64 - 1)) (sym (asked_count answer number k marks)) in
          subst (λ (m : Marks). HasRead moment (reading lent after m)) (sym e)
          (keeps made reads (noted answer cause) (spoiled answer cause old) (none_spoiled answer whole))

-- ---- what is said of a call

-- what the seat and the marks are besides, the source is the same
pub keeps_source : {D : Type 0} (moment : D → Moment) (lent : Lent D) (before after : Seat D) (marks next : Marks) → marks.faults ≤ next.faults →
    Keeps (pinned_state moment (reading lent before marks)) (pinned_state moment (reading lent after next))
keeps_source moment lent before after marks next e = record { stored = refl; chunks = refl; tells = λ db. (λ t. t, λ t. t); later = e }
