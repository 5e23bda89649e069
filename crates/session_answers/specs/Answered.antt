-- The answer to a statement, at its place in the history of a store that is shared.
use Rattle.std.specs.Prelude.{◌≡◌, ◌≤◌, ◌⊎◌, ℕ, List, [], length, Some}
use Rattle.afl_outside.specs.Disk.{Moment}
use Rattle.afl_trees.specs.Term.{Term}
use Rattle.afl_trees.specs.Statement.{DerivesText, StopsText}
use Rattle.afl_trees.specs.declared.kind.ParseKind.{ParseKind}
use Rattle.event_core.specs.declared.entry.Entry.TheVariants.{Pin, Unpin}
use Rattle.result_print.specs.declared.refusal.Refusal.TheVariants.{HistoryFull, Parse}
use Rattle.statement_replies.specs.Reply.{refused}
use Rattle.statement_replies.specs.declared.replies.style.Style.{Style}
use Rattle.store_state.specs.declared.state.event.Event.{Event}
use Rattle.snapshot_manager.specs.Start.{Start}
use Rattle.snapshot_manager.specs.Told.{entries_in}
use Rattle.session_sources.specs.Courses.{AddsOwn}
use Rattle.session_answers.specs.Acts.{acts_for, acts_in, Course, nothing}
use Rattle.session_answers.specs.Refusals.{IsWantBetween}
use Rattle.session_answers.specs.Replies.{words_of, EnteredAt, HadNoRoom, HasLine, IsToldFor}
use Rattle.session_answers.specs.declared.replies.reply.Reply.{Reply}

-- the reply to a text that no tree derives: where and why it stops. It rests on no entry, and has the place of the session's last reply
pub record IsStopReply (last at : ℕ) (kind : ParseKind) (reply : Reply) : Type 0 where
  pub words : words_of reply ≡ refused (Parse at kind)
  pub place : reply.place ≡ last

-- a statement's own pin came at a place, behind all that its session had seen
abbrev pub BeganAt : ℕ → ℕ → List Event → List Event → Course → Type 0
BeganAt session pin old new nothing = Unit {0}
BeganAt session pin old new course = EnteredAt (length (entries_in old)) (Pin session) pin new

-- and its pin ended at a place, where that of its reply had come
abbrev pub EndedAt : ℕ → ℕ → ℕ → List Event → Course → Type 0
EndedAt session place unpin new nothing = Unit {0}
EndedAt session place unpin new course = EnteredAt place (Unpin session) unpin new

-- A STATEMENT IS ANSWERED, in a style of replies: behind all that its session had seen, and among others' events, it did this; its reply is
-- that of its tree, or that of its stop, of which it has one; and the reply's place is behind all that the session had seen. Where the history
-- is told to be full, it was so behind that too
pub record IsAnswered {D : Type 0} (style : Style) (moment : D → Moment) (start : Start D) (session last : ℕ) (old new : List Event)
    (text : List ℕ) (reply : Reply) : Type 0 where
  pub own : List Event
  pub course : Course
  pub pin : ℕ
  pub adds : AddsOwn session own old new
  pub acts : acts_in own ≡ acts_for course
  pub began : BeganAt session pin old new course
  pub unpin : ℕ
  pub ended : EndedAt session reply.place unpin new course
  pub line : HasLine reply reply.refusal
  pub told : (tree : Term) → DerivesText text tree
      → (length (entries_in old) ≤ reply.place) × IsToldFor moment start session pin new own text tree reply style reply.refusal course
  pub until : (tree : Term) → DerivesText text tree → reply.place ≤ length (entries_in new)
  pub full : (tree : Term) → DerivesText text tree → reply.refusal ≡ Some HistoryFull → HadNoRoom start old new reply.place
  pub stopped : (at : ℕ) (kind : ParseKind) → StopsText text at kind
      → (own ≡ []) × (IsStopReply last at kind reply ⊎ IsWantBetween old new reply)
