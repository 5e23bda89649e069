-- What is known between the steps of an answer under a pin.
use Rattle.std.specs.Prelude.{◌≡◌, ◌+◌, ◌≤◌, ℕ, Bool, List, [], ◌++◌, false, None, Some, Result, Ok, Err, IfOk, IfErr, IsTrue}
use Rattle.afl_outside.specs.Disk.{Moment}
use Rattle.afl_trees.specs.Term.{Term}
use Rattle.afl_types.specs.Checking.{check_of}
use Rattle.chunk_source.specs.declared.reading.fault.ExecFault.{ExecFault}
use Rattle.chunk_source.specs.Faults.{Answers}
use Rattle.plan_changes.specs.Databases.{Database}
use Rattle.plan_changes.specs.Stored.{AreStored}
use Rattle.check_exprs.specs.Laws.{leaves_fit}
use Rattle.statement_replies.specs.declared.answers.outcome.Outcome.{Outcome}
use Rattle.statement_replies.specs.Outcomes.{asked_for, ForRowsPut, HasOutcomeKind, IsOutcomeOf, IsToldBy, MayBeCommitted, MayFail}
use Rattle.statement_replies.specs.Statements.{reply_to}
use Rattle.statement_replies.specs.declared.replies.style.Style.{Style}
use Rattle.store_ledger.specs.declared.pinned.Pinned.{Pinned}
use Rattle.store_ledger.specs.declared.note.NoteKind.{NoteKind}
use Rattle.store_ledger.specs.Ledger.{is_fault, is_noted, is_tried}
use Rattle.store_state.specs.Calls.{database_with}
use Rattle.store_state.specs.Standings.{BeganAs}
use Rattle.store_state.specs.declared.state.event.Event.{Event}
use Rattle.session_answers.specs.Acts.{acts_in}
use Rattle.session_answers.specs.BehindPins.{ComesOver}
use Rattle.snapshot_manager.specs.CommitFault.{CommitFault}
use Rattle.snapshot_manager.specs.declared.committing.Commit.{Commit}
use Rattle.snapshot_manager.specs.declared.committing.Commit.TheVariants.{Done, Stale}
use Rattle.snapshot_manager.specs.Start.{Start}
use Rattle.snapshot_manager.specs.Turn.{Turn}
use Rattle.statement_replies.specs.declared.replies.replies.Reply.{Reply as Told}
use Rattle.store_state.specs.declared.state.parts.StoreParts.{StoreParts}
use Rattle.session_answers.specs.Refusals.{IsUncommittedReply}
use Rattle.session_answers.specs.Replies.{words_of, Says, SaysChange}
use Rattle.session_answers.specs.declared.replies.attempt.Attempt.{Attempt}
use Rattle.session_answers.specs.declared.replies.reply.Reply.{Reply}
use Rattle.session_answers.specs.declared.turns.settings.Options.{Options}
use Rattle.session_answers.specs.Under.{SaysWhy}
use Rattle.session_sources.specs.declared.marks.Marks.{Marks}
use Rattle.session_sources.specs.declared.reading.Reading.{Reading}
use Rattle.session_sources.specs.Courses.{AddsOwn}
use Rattle.session_sources.specs.Pinned.{pinned_state, reading_of, unread, HasRead}
use Rattle.snapshot_manager.specs.declared.seat.Seat.{Seat}
use Rattle.snapshot_manager.specs.declared.shared.Shared.{Shared}
use Rattle.snapshot_manager.specs.Databases.{IsDatabaseOf}
use Rattle.snapshot_manager.specs.Prepared.{MayBeMade}
use Rattle.snapshot_manager.specs.Seats.{ledger_seen, seen, session_of, start, store_seen, HoldsPin, IsIdle, IsSeatOf}
use Rattle.snapshot_manager.specs.Told.{ledger_of}

-- a statement was read over what a pin sees, from one seat to the next: this came of it, for which all that it reads was asked for once; or this
-- is why nothing did
pub record WasRead {D : Type 0} (style : Style) (moment : D → Moment) (shared : Shared D) (pinned : Pinned) (old new : Seat D)
    (text : List ℕ) (tree : Term) (result : Result Outcome ExecFault) : Type 0 where
  pub marks : Marks
  pub read : HasRead moment (reading_of shared pinned old new marks)
  pub comes : IfOk result (ComesOver style pinned.names (pinned_state moment (unread shared pinned old)) text tree)
  pub asked : IfOk result (λ outcome. ForRowsPut pinned.names (pinned_state moment (unread shared pinned old)) (check_of tree text pinned.names) (λ rows.
      marks.asked ≡ asked_for rows (pinned_state moment (unread shared pinned old)) pinned.names (check_of tree text pinned.names) outcome))
  pub why : IfErr result (SaysWhy moment (reading_of shared pinned old new marks))
  pub allowed : IfErr result (λ fault. MayFail fault (check_of tree text pinned.names))

-- what holds of a seat under its session's pin before a statement is read there
pub record IsUnder {D : Type 0} (options : Options) (moment : D → Moment) (shared : Shared D) (now : Seat D) (pinned : Pinned) (tree : Term) : Type 0 where
  pub seat : IsSeatOf shared now × IsIdle now
  pub pin : HoldsPin moment shared now pinned
  pub untried : (kinds : NoteKind → Bool) → is_noted kinds (ledger_seen moment shared now) (session_of now) ≡ false
  pub stored : AreStored pinned.names
  pub database : (db : Database) → BeganAs (moment (start moment shared).opened.disk).state db
      → IsDatabaseOf (database_with db (store_seen moment shared now) pinned.place) pinned.names
  pub fit : IsTrue (leaves_fit tree)
  pub workers : (1 ≤ options.workers) × (options.workers ≤ 64)

-- what holds of it, and of a change that a statement was, before that is committed
pub record MayCommit {D : Type 0} (options : Options) (moment : D → Moment) (shared : Shared D) (now : Seat D) (pinned : Pinned)
    (text : List ℕ) (tree : Term) (attempt : Attempt) : Type 0 where
  pub seat : IsSeatOf shared now × IsIdle now
  pub pin : HoldsPin moment shared now pinned
  pub tried : is_noted is_tried (ledger_seen moment shared now) pinned.session ≡ false
  pub allowed : MayBeCommitted pinned.names attempt.change attempt.changed
  pub database : (db : Database) → BeganAs (moment (start moment shared).opened.disk).state db
      → IsDatabaseOf (database_with db (store_seen moment shared now) pinned.place) pinned.names
  pub may : (db : Database) → BeganAs (moment (start moment shared).opened.disk).state db
      → MayBeMade (database_with db (store_seen moment shared now) pinned.place) attempt.change attempt.changed
  pub said : Says options.style moment (start moment shared) (seen now) text tree (pinned.place + 1)
      (record { reply = attempt.words; change = Some attempt.change })
  pub typed : SaysChange options.style moment (start moment shared) (seen now) text tree (pinned.place + 1) attempt.change
  pub fit : IsTrue (leaves_fit tree)
  pub workers : (1 ≤ options.workers) × (options.workers ≤ 64)

-- what holds of a pin's source before a statement is read over it
pub record MayRead {D : Type 0} (options : Options) (pinned : Pinned) (source : Reading D) (tree : Term) : Type 0 where
  pub undamaged : source.marks.damaged ≡ None
  pub same : source.lent.pinned ≡ pinned
  pub stored : AreStored pinned.names
  pub fit : IsTrue (leaves_fit tree)
  pub workers : (1 ≤ options.workers) × (options.workers ≤ 64)

-- a statement was read over the source of a pin, from one state to the next: this came of it, or this is why nothing did
pub record ReadsSource {D : Type 0} (style : Style) (moment : D → Moment) (pinned : Pinned) (text : List ℕ) (tree : Term) (old new : Reading D)
    (result : Result Outcome ExecFault) : Type 0 where
  pub lent : new.lent ≡ old.lent
  pub kind : IfOk result (HasOutcomeKind style pinned.names (check_of tree text pinned.names))
  pub told : IfOk result (λ outcome. (db : Database) → IsToldBy pinned.names (pinned_state moment old) db → IsOutcomeOf db (reply_to style db text tree) outcome)
  pub asked : IfOk result (λ outcome. ForRowsPut pinned.names (pinned_state moment old) (check_of tree text pinned.names) (λ rows.
      new.marks.asked ≡ old.marks.asked ++ asked_for rows (pinned_state moment old) pinned.names (check_of tree text pinned.names) outcome))
  pub cause : Answers (pinned_state moment old) (pinned_state moment new) result
  pub allowed : IfErr result (λ fault. MayFail fault (check_of tree text pinned.names))

-- since its first events a session added these of its own, none of which is an act, and the disk had not failed for its pin before
pub record AddsNoAct {D : Type 0} (start : Start D) (session : ℕ) (first own old : List Event) : Type 0 where
  pub adds : AddsOwn session own first old
  pub acts : acts_in own ≡ []
  pub untried : is_noted is_fault (ledger_of start first) session ≡ false

-- the reply to a commit that was tried, when so many entries were seen then; or the turn in which the change was stale
abbrev pub Tells : {D : Type 0} → ℕ → Told → Result (Commit D) CommitFault → Result Reply (Turn (StoreParts D)) → Type 0
Tells count words (Ok (Done place)) (Ok reply) = (words_of reply ≡ words) × (reply.place ≡ place)
Tells count words (Ok (Done place)) (Err left) = ⊥
Tells count words (Ok (Stale turn)) (Ok reply) = ⊥
Tells count words (Ok (Stale turn)) (Err left) = left ≡ turn
Tells count words (Err fault) (Ok reply) = IsUncommittedReply count fault reply
Tells count words (Err fault) (Err left) = ⊥
