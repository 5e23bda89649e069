-- What was read under a pin, and how it is answered.
use Rattle.std.proofs.Common.{◌≡◌, ◌∙◌, ◌+◌, ◌<◌, ◌≤◌, ℕ, Bool, false, List, [], ◌∷◌, ◌++◌, length, Option, None, Result, Ok, Err, IfOk, IfErr, ap, sym, subst, arith}
use Rattle.afl_outside.specs.Counts.{Rose}
use Rattle.afl_outside.specs.Disk.{Moment}
use Rattle.afl_trees.specs.Term.{Term}
use Rattle.afl_types.specs.Checking.{check_of}
use Rattle.array_geom.specs.declared.chunk.Changed.{Changed}
use Rattle.chunk_source.specs.declared.reading.fault.ExecFault.{ExecFault}
use Rattle.chunk_source.specs.declared.reading.fault.ExecFault.TheVariants.{Source, Damaged, Memory}
use Rattle.chunk_source.specs.Faults.{Answers}
use Rattle.chunk_source.specs.Source.{Reads}
use Rattle.event_core.specs.Cells.{at}
use Rattle.event_core.specs.History.{History}
use Rattle.logical_plan.specs.declared.parts.Leaf.{Leaf}
use Rattle.plan_changes.specs.declared.change.Change.{Change}
use Rattle.plan_changes.specs.Databases.{Database, names_of}
use Rattle.statement_replies.specs.declared.answers.outcome.Outcome.{Outcome}
use Rattle.statement_replies.specs.declared.answers.outcome.Outcome.TheVariants.{Replied, Changes}
use Rattle.statement_replies.specs.Outcomes.{asked_for, ForRowsPut, HasOutcomeKind, IsOutcomeOf, IsToldBy}
use Rattle.statement_replies.specs.declared.replies.replies.Reply.{Reply as Told}
use Rattle.statement_replies.specs.Statements.{reply_to}
use Rattle.statement_replies.specs.declared.replies.style.Style.{Style}
use Rattle.store_ledger.specs.declared.note.NoteKind.{NoteKind}
use Rattle.store_ledger.specs.declared.pinned.Pinned.{Pinned}
use Rattle.store_ledger.specs.Ledger.{IsOpenPin, is_fault, is_noted}
use Rattle.store_state.specs.declared.state.event.Event.{Event}
use Rattle.store_state.specs.Calls.{IsLeafOf}
use Rattle.snapshot_manager.specs.declared.seat.Seat.{Seat}
use Rattle.snapshot_manager.specs.declared.shared.Shared.{Shared}
use Rattle.session_answers.specs.Acts.{acts_in, begins, ends, looking}
use Rattle.session_answers.specs.Fresh.{IsNamedAt}
use Rattle.session_answers.specs.Refusals.{IsUnreadReply}
use Rattle.session_answers.specs.Replies.{words_of}
use Rattle.session_answers.specs.declared.replies.reply.Reply.{Reply}
use Rattle.session_answers.proofs.Beginnings.{history_stays}
use Rattle.session_sources.specs.declared.reading.Lent.{Lent}
use Rattle.session_sources.specs.declared.reading.Reading.{Reading}
use Rattle.session_sources.specs.Courses.{AddsOwn}
use Rattle.snapshot_manager.specs.Databases.{IsDatabaseOf}
use Rattle.session_sources.proofs.VersionLaws.{pinned_sources_hold_versions}
use Rattle.session_sources.specs.Pinned.{pinned_state, reading_of, unread, HasRead}
use Rattle.snapshot_manager.specs.Seats.{ledger_seen, seen, session_of, start}
use Rattle.snapshot_manager.specs.Start.{Start}
use Rattle.snapshot_manager.specs.Told.{entries_in, ledger_of}
use Rattle.session_answers.specs.BehindPins.{ComesOver, HasDatabaseAt}
use Rattle.session_answers.specs.Changing.{IsReadChange}
use Rattle.session_answers.specs.ToldReplies.{IsLookedReply}
use Rattle.session_answers.specs.Under.{SaysWhy, WasPinned}
use Rattle.session_answers.proofs.Behind.{names_behind, open_pin_behind}
use Rattle.session_answers.proofs.Changing.{read_changes_may_be_committed}
use Rattle.session_answers.proofs.Under.{failed_replies_are_told, pin_within, read_replies_are_told}
use Rattle.session_answers.specs.AnsweredUnder.{IsAnsweredUnder}
use Rattle.session_answers.specs.Inner.Steps.{AddsNoAct, ReadsSource, WasRead}
use Rattle.session_answers.proofs.Acts.{note_acts}

-- ---- the names at a pin's database, right behind it and later

module _ {D : Type 0} (moment : D → Moment) (began : Start D) (old : List Event) (pinned : Pinned) (o : IsOpenPin (ledger_of began old) pinned)
    (has : HasDatabaseAt moment began old pinned.place pinned.names) where
  pub named_behind : IsNamedAt moment began old (pinned.place + 1)
  named_behind db is = ap names_of ((open_pin_behind began old pinned o).database db) ∙ (has db is).named ∙ sym (names_behind began old pinned o)

  pub database_later : (more : List Event) → HasDatabaseAt moment began (old ++ more) pinned.place pinned.names
  database_later more db is =
      let le : pinned.place + 1 ≤ length (entries_in old) = pin_within began old pinned o in
      subst (λ (h : History). IsDatabaseOf (at db h) pinned.names) (sym (history_stays began old more pinned.place (omega (arith, le)))) (has db is)

-- ---- a reading, from its source's first call to its last

rose_above : (before now : ℕ) → before ≡ 0 → Rose before now → 0 < now
rose_above before now e rose = omega (arith, e, rose)

pub holds_versions : {D : Type 0} (moment : D → Moment) (pinned : Pinned) (first : Reading D) → first.lent.pinned ≡ pinned →
    (leaf : Leaf) → IsLeafOf pinned.names leaf → Reads (pinned_state moment first) leaf
holds_versions moment pinned first is leaf of = pinned_sources_hold_versions moment first leaf (subst (λ (p : Pinned). IsLeafOf p.names leaf) (sym is) of)

module _ {D : Type 0} (shared : Shared D) (pinned : Pinned) (old : Seat D) (first : Reading D) (made : first ≡ unread shared pinned old) where
  pub whole_first : first.marks.damaged ≡ None
  whole_first = ap (λ (r : Reading D). r.marks.damaged) made

  pub pinned_first : first.lent.pinned ≡ pinned
  pinned_first = ap (λ (r : Reading D). r.lent.pinned) made

module _ {D : Type 0} (style : Style) (moment : D → Moment) (shared : Shared D) (pinned : Pinned) (old new : Seat D) (text : List ℕ) (tree : Term) (first last : Reading D)
    (made : first ≡ unread shared pinned old) where
  module _ (seat : new ≡ last.seat) where
    last_is : last.lent ≡ first.lent → last ≡ reading_of shared pinned old new last.marks
    last_is lent =
        ap (λ (l : Lent D). record { lent = l; seat = last.seat; marks = last.marks }) (lent ∙ ap (λ (r : Reading D). r.lent) made)
        ∙ ap (λ (s : Seat D). reading_of shared pinned old s last.marks) (sym seat)

    abbrev TellsBy : Reading D → Outcome → Type 0
    TellsBy r outcome = (db : Database) → IsToldBy pinned.names (pinned_state moment r) db → IsOutcomeOf db (reply_to style db text tree) outcome

    comes_by : (result : Result Outcome ExecFault) → IfOk result (HasOutcomeKind style pinned.names (check_of tree text pinned.names)) → IfOk result (TellsBy first) →
        IfOk result (ComesOver style pinned.names (pinned_state moment (unread shared pinned old)) text tree)
    comes_by (Ok outcome) kind tells = record { kind = kind; told = subst (λ (r : Reading D). TellsBy r outcome) made tells }
    comes_by (Err fault) kind tells = tt

    why_by : (result : Result Outcome ExecFault) → Answers (pinned_state moment first) (pinned_state moment last) result →
        IfErr result (SaysWhy moment (reading_of shared pinned old new last.marks))
    why_by (Ok outcome) answers = tt
    why_by (Err Source) answers = rose_above first.marks.faults last.marks.faults (ap (λ (r : Reading D). r.marks.faults) made) answers.0
    why_by (Err (Damaged page)) answers = answers
    why_by (Err Memory) answers = tt

    abbrev AsksBy : Reading D → Outcome → Type 0
    AsksBy r outcome = ForRowsPut pinned.names (pinned_state moment r) (check_of tree text pinned.names) (λ rows.
        last.marks.asked ≡ r.marks.asked ++ asked_for rows (pinned_state moment r) pinned.names (check_of tree text pinned.names) outcome)

    asked_by : (result : Result Outcome ExecFault) → IfOk result (AsksBy first) → IfOk result (AsksBy (unread shared pinned old))
    asked_by (Ok outcome) asks = subst (λ (r : Reading D). AsksBy r outcome) made asks
    asked_by (Err fault) asks = tt

    pub was_read : (result : Result Outcome ExecFault) → HasRead moment last → ReadsSource style moment pinned text tree first last result →
        WasRead style moment shared pinned old new text tree result
    was_read result read s = record {
      marks = last.marks;
      read = subst (HasRead moment) (last_is s.lent) read;
      comes = comes_by result s.kind s.told;
      asked = asked_by result s.asked;
      why = why_by result s.cause;
      allowed = s.allowed;
    }

-- ---- its answers

module _ {D : Type 0} (style : Style) (moment : D → Moment) (shared : Shared D) (pinned : Pinned) (old new : Seat D) (text : List ℕ) (tree : Term)
    (has : HasDatabaseAt moment (start moment shared) (seen old) pinned.place pinned.names)
    (untried : (kinds : NoteKind → Bool) → is_noted kinds (ledger_seen moment shared old) (session_of old) ≡ false) where
  abbrev began : Start D
  began = start moment shared

  module _ (result : Result Outcome ExecFault) (w : WasRead style moment shared pinned old new text tree result) where
    abbrev r : Reading D
    r = reading_of shared pinned old new w.marks

    abbrev own : List Event
    own = w.read.adds.own

    was : WasPinned moment r
    was = record { database = has; untried = untried }

    own_adds : AddsOwn pinned.session own (seen old) (seen new)
    own_adds = subst (λ (session : ℕ). AddsOwn session own (seen old) (seen new)) (sym w.read.lent_pin.own) w.read.adds.adds

    own_acts : acts_in own ≡ []
    own_acts = note_acts began (session_of old) own (seen new) w.read.adds.note

    pub no_act : AddsNoAct began pinned.session (seen old) own (seen new)
    no_act = record {
      adds = own_adds;
      acts = own_acts;
      untried = ap (λ (session : ℕ). is_noted is_fault (ledger_of began (seen old)) session) w.read.lent_pin.own ∙ untried is_fault;
    }

    pub database_now : HasDatabaseAt moment began (seen new) pinned.place pinned.names
    database_now = subst (λ (events : List Event). HasDatabaseAt moment began events pinned.place pinned.names) (sym own_adds.grown)
        (database_later moment began (seen old) pinned w.read.lent_pin.open_pin has own_adds.more)

    looked : (reply : Reply) → reply.place ≡ pinned.place + 1 → IsLookedReply moment began pinned.session pinned.place (seen new) own text tree reply style →
        IsAnsweredUnder style moment began pinned.session pinned.place (seen old) (seen new) text tree reply
    looked reply at look =
        let le : pinned.place + 1 ≤ length (entries_in (seen new)) = pin_within began (seen new) pinned w.read.pin.open_pin in
        record {
          own = own;
          course = looking;
          adds = own_adds;
          acts = ap (λ acts. begins ∷ (acts ++ ends ∷ [])) own_acts;
          line = look.line;
          since = omega (arith, at);
          until = omega (arith, at, le);
          told = look.told;
        }

  pub replied_is_answered : (words : Told) (reply : Reply) → WasRead style moment shared pinned old new text tree (Ok (Replied words)) → words_of reply ≡ words →
      reply.place ≡ pinned.place + 1 → IsAnsweredUnder style moment began pinned.session pinned.place (seen old) (seen new) text tree reply
  replied_is_answered words reply w same at =
      looked (Ok (Replied words)) w reply at
      (read_replies_are_told moment style (reading_of shared pinned old new w.marks) text tree reply w.read (was (Ok (Replied words)) w)
      (subst (λ (said : Told). ComesOver style pinned.names (pinned_state moment (unread shared pinned old)) text tree (Replied said)) (sym same) w.comes)
      at w.read.adds)

  pub unread_is_answered : (fault : ExecFault) (reply : Reply) → WasRead style moment shared pinned old new text tree (Err fault) → IsUnreadReply fault reply →
      reply.place ≡ pinned.place + 1 → IsAnsweredUnder style moment began pinned.session pinned.place (seen old) (seen new) text tree reply
  unread_is_answered fault reply w u at =
      looked (Err fault) w reply at
      (failed_replies_are_told moment style (reading_of shared pinned old new w.marks) text tree reply fault w.read (was (Err fault) w) w.why w.allowed u at w.read.adds)

  pub change_is_read : (change : Change) (changed : Option Changed) (words : Told) (w : WasRead style moment shared pinned old new text tree (Ok (Changes change changed words))) →
      IsReadChange moment (reading_of shared pinned old new w.marks) text tree change changed words style
  change_is_read change changed words w =
      read_changes_may_be_committed moment style (reading_of shared pinned old new w.marks) text tree change changed words w.read
      (was (Ok (Changes change changed words)) w) w.comes
