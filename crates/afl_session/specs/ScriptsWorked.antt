-- A statement that is too long, behind a reply at place 3 and behind any events, as its mark tells it; and where no memory was found for that.
use Rattle.std.specs.Prelude.{ℕ, List, None, Some, codes, length}
use Rattle.afl_outside.specs.Disk.{Moment}
use Rattle.afl_lexer.specs.Split.{Statement}
use Rattle.result_print.specs.declared.refusal.Refusal.TheVariants.{TooLong, Memory}
use Rattle.statement_replies.specs.Reply.{memory_line}
use Rattle.store_state.specs.declared.state.event.Event.{Event}
use Rattle.snapshot_manager.specs.Start.{Start}
use Rattle.statement_replies.specs.declared.replies.style.Style.{Style}
use Rattle.snapshot_manager.specs.Told.{entries_in}
use Rattle.run_opening.specs.declared.reports.reports.Mark.{Mark}
use Rattle.afl_session.specs.Marked.{IsMarked}

abbrev pub long_statement : Statement
long_statement = record { start = 5; end = 1048590; text = None }

abbrev pub its_mark : Mark
its_mark = record { start = 5; end = 1048590; place = 3; refusal = Some (TooLong 1048585) }

abbrev pub its_line : List ℕ
its_line = codes "error: too long: 1048585 bytes\n"

-- the place of a want of memory is that behind all that was seen
abbrev pub mark_of_want : List Event → Mark
mark_of_want events = record { start = 5; end = 1048590; place = length (entries_in events); refusal = Some Memory }

pub record IsWorked {D : Type 0} (moment : D → Moment) : Type 0 where
  pub told : (style : Style) (origin : Start D) (events : List Event)
      → IsMarked style moment origin 0 events events 3 long_statement its_mark its_line
  pub wanting : (style : Style) (origin : Start D) (events : List Event)
      → IsMarked style moment origin 0 events events 3 long_statement (mark_of_want events) memory_line
