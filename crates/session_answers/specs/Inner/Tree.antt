-- What a session does for a statement that has a tree.
use Rattle.std.specs.Prelude.{◌≡◌, ◌≤◌, ℕ, List, length, Some, IsTrue}
use Rattle.afl_outside.specs.Disk.{Moment}
use Rattle.afl_parser.specs.declared.fault.ParseFault.{ParseFault}
use Rattle.afl_parser.specs.declared.fault.ParseFault.TheVariants as stops
use Rattle.afl_trees.specs.Statement.{DerivesText}
use Rattle.afl_trees.specs.Term.{Term}
use Rattle.check_exprs.specs.Laws.{leaves_fit}
use Rattle.result_print.specs.declared.refusal.Refusal.TheVariants.{HistoryFull, Parse}
use Rattle.store_ledger.specs.declared.pinned.PinFault.{PinFault}
use Rattle.store_ledger.specs.declared.pinned.PinFault.TheVariants as pins
use Rattle.statement_replies.specs.declared.replies.style.Style.{Style}
use Rattle.store_state.specs.declared.state.event.Event.{Event}
use Rattle.snapshot_manager.specs.declared.seat.Seat.{Seat}
use Rattle.snapshot_manager.specs.declared.shared.Shared.{Shared}
use Rattle.snapshot_manager.specs.Seats.{HoldsNone, IsIdle, IsSeatOf}
use Rattle.snapshot_manager.specs.Start.{Start}
use Rattle.snapshot_manager.specs.Told.{entries_in}
use Rattle.session_sources.specs.Courses.{AddsOwn}
use Rattle.session_answers.specs.Acts.{acts_for, acts_in, Course}
use Rattle.session_answers.specs.Refusals.{IsWant, Refuses, RefusesAt}
use Rattle.session_answers.specs.Replies.{HadNoRoom, HasLine, IsToldFor}
use Rattle.session_answers.specs.Answered.{BeganAt, EndedAt}
use Rattle.session_answers.specs.declared.replies.reply.Reply.{Reply}
use Rattle.session_answers.specs.declared.turns.settings.Options.{Options}

-- what holds of a seat before a statement with this tree is answered for it
pub record MayAnswer {D : Type 0} (options : Options) (moment : D → Moment) (shared : Shared D) (now : Seat D) (text : List ℕ) (tree : Term) : Type 0 where
  pub seat : IsSeatOf shared now × IsIdle now
  pub none : HoldsNone moment shared now
  pub derives : DerivesText text tree
  pub fit : IsTrue (leaves_fit tree)
  pub workers : (1 ≤ options.workers) × (options.workers ≤ 64)

-- a statement with this tree was answered, behind all that its session had seen
pub record IsAnsweredTree {D : Type 0} (style : Style) (moment : D → Moment) (start : Start D) (session : ℕ) (old new : List Event)
    (text : List ℕ) (tree : Term) (reply : Reply) : Type 0 where
  pub own : List Event
  pub course : Course
  pub pin : ℕ
  pub adds : AddsOwn session own old new
  pub acts : acts_in own ≡ acts_for course
  pub began : BeganAt session pin old new course
  pub unpin : ℕ
  pub ended : EndedAt session reply.place unpin new course
  pub line : HasLine reply reply.refusal
  pub later : length (entries_in old) ≤ reply.place
  pub until : reply.place ≤ length (entries_in new)
  pub full : reply.refusal ≡ Some HistoryFull → HadNoRoom start old new reply.place
  pub told : IsToldFor moment start session pin new own text tree reply style reply.refusal course

-- the reply to a text that isn't parsed, behind the last reply, when so many entries were seen
abbrev pub TellsUnparsed : ℕ → ℕ → ParseFault → Reply → Type 0
TellsUnparsed last seen (stops.At at kind) reply = RefusesAt (Parse at kind) last seen reply
TellsUnparsed last seen stops.Memory reply = IsWant reply × (reply.place ≡ seen)

-- the reply where there is no pin, when so many entries were seen
abbrev pub TellsUnpinned : ℕ → PinFault → Reply → Type 0
TellsUnpinned seen (pins.HistoryFull entries) reply = Refuses HistoryFull reply × (reply.place ≡ entries)
TellsUnpinned seen pins.Memory reply = IsWant reply × (reply.place ≡ seen)
