-- What a session does for a statement between its pin and its unpin.
use Rattle.std.specs.Prelude.{◌≡◌, ◌≤◌, ◌<◌, ℕ, List, [], ◌∷◌, ◌++◌, length, IsTrue}
use Rattle.afl_outside.specs.Disk.{Moment}
use Rattle.afl_trees.specs.Term.{Term}
use Rattle.statement_replies.specs.declared.replies.style.Style.{Style}
use Rattle.store_ledger.specs.Ledger.{is_fault, is_noted}
use Rattle.store_state.specs.declared.state.event.Event.{Event}
use Rattle.snapshot_manager.specs.Start.{Start}
use Rattle.snapshot_manager.specs.Told.{entries_in, ledger_of}
use Rattle.session_sources.specs.Courses.{AddsOwn}
use Rattle.session_answers.specs.Acts.{acts_for, acts_in, begins, ends, Course}
use Rattle.session_answers.specs.Replies.{HasFault, HasLine, IsToldFor}
use Rattle.session_answers.specs.declared.replies.reply.Reply.{Reply}

-- a statement with this tree was answered under a pin that came at this place: between the pin and the unpin its session did this
pub record IsAnsweredUnder {D : Type 0} (style : Style) (moment : D → Moment) (start : Start D) (session pin : ℕ) (old new : List Event)
    (text : List ℕ) (tree : Term) (reply : Reply) : Type 0 where
  pub own : List Event
  pub course : Course
  pub adds : AddsOwn session own old new
  pub acts : begins ∷ (acts_in own ++ ends ∷ []) ≡ acts_for course
  pub line : HasLine reply reply.refusal
  pub since : pin < reply.place
  pub until : reply.place ≤ length (entries_in new)
  pub told : IsToldFor moment start session pin new own text tree reply style reply.refusal course

-- A STATEMENT WITH THIS TREE WAS ANSWERED IN A TURN that its session held, under a pin that came at this place: in the turn its session did
-- this. Whatever the session had done between the pin and the turn, the reply tells what it has to: that a disk failed, only where a note of
-- it stands under the pin
pub record IsAnsweredInTurn {D : Type 0} (style : Style) (moment : D → Moment) (start : Start D) (session pin : ℕ) (old new : List Event)
    (text : List ℕ) (tree : Term) (reply : Reply) : Type 0 where
  pub own : List Event
  pub course : Course
  pub adds : AddsOwn session own old new
  pub acts : begins ∷ (acts_in own ++ ends ∷ []) ≡ acts_for course
  pub line : HasLine reply reply.refusal
  pub since : pin < reply.place
  pub until : reply.place ≤ length (entries_in new)
  pub told : (before : List Event) → (IsTrue (is_noted is_fault (ledger_of start new) session) → HasFault session (before ++ own))
      → IsToldFor moment start session pin new (before ++ own) text tree reply style reply.refusal course
