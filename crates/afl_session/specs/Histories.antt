-- What a session was answered, over a whole history that begins with all that it had seen.
use Rattle.std.specs.Prelude.{◌≡◌, ◌≤◌, ◌⊎◌, ℕ, List, [], length, Some}
use Rattle.afl_outside.specs.Disk.{Moment}
use Rattle.afl_trees.specs.Term.{Term}
use Rattle.afl_trees.specs.Statement.{DerivesText, StopsText}
use Rattle.afl_trees.specs.declared.kind.ParseKind.{ParseKind}
use Rattle.result_print.specs.declared.refusal.Refusal.TheVariants.{HistoryFull}
use Rattle.session_answers.specs.Acts.{acts_for, acts_in, Course}
use Rattle.session_answers.specs.Answered.{BeganAt, EndedAt, IsStopReply}
use Rattle.session_sources.specs.Courses.{AddsOwn}
use Rattle.store_state.specs.declared.state.event.Event.{Event}
use Rattle.session_answers.specs.Refusals.{IsWantBetween}
use Rattle.session_answers.specs.Replies.{HadNoRoom, HasLine, IsToldFor}
use Rattle.session_answers.specs.declared.replies.reply.Reply.{Reply}
use Rattle.snapshot_manager.specs.Start.{Start}
use Rattle.statement_replies.specs.declared.replies.style.Style.{Style}
use Rattle.snapshot_manager.specs.Told.{entries_in}
use Rattle.afl_session.specs.Marked.{IsMarkedBy, ReplyRule}
use Rattle.afl_session.specs.Session.{AnswerRule}

-- A STATEMENT IN ONE HISTORY, in a style of replies: between what its session had seen before and then, it did this of its own; its pin came
-- at that place of the history, and ended at that one; and its reply, which is that of its tree or of its stop, tells at its place of the
-- history what it has to
pub record IsAnsweredIn {D : Type 0} (style : Style) (moment : D → Moment) (origin : Start D) (session : ℕ) (events old new : List Event)
    (last : ℕ) (text : List ℕ) (reply : Reply) : Type 0 where
  pub own : List Event
  pub course : Course
  pub pin : ℕ
  pub adds : AddsOwn session own old new
  pub acts : acts_in own ≡ acts_for course
  pub began : BeganAt session pin old events course
  pub unpin : ℕ
  pub ended : EndedAt session reply.place unpin events course
  pub line : HasLine reply reply.refusal
  pub told : (tree : Term) → DerivesText text tree
      → (length (entries_in old) ≤ reply.place) × IsToldFor moment origin session pin events own text tree reply style reply.refusal course
  pub until : (tree : Term) → DerivesText text tree → reply.place ≤ length (entries_in new)
  pub full : (tree : Term) → DerivesText text tree → reply.refusal ≡ Some HistoryFull → HadNoRoom origin old events reply.place
  pub stopped : (at : ℕ) (kind : ParseKind) → StopsText text at kind → (own ≡ []) × (IsStopReply last at kind reply ⊎ IsWantBetween old new reply)

module _ {D : Type 0} (style : Style) (moment : D → Moment) (origin : Start D) (session : ℕ) (events : List Event) where
  abbrev pub AnswersTextIn : ReplyRule
  AnswersTextIn old new last text reply = IsAnsweredIn style moment origin session events old new last text reply

  -- A STATEMENT'S MARK, AND THE TEXT THAT IT WAS ANSWERED, in one history
  abbrev pub IsMarkedIn : AnswerRule
  IsMarkedIn old new last statement mark written = IsMarkedBy AnswersTextIn old new last statement mark written
