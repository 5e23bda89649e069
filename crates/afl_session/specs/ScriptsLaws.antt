-- What holds of the marks of sessions.
use Rattle.std.specs.Prelude.{ℕ, List, ◌++◌, IsTrue}
use Rattle.std.specs.List.{list_all}
use Rattle.afl_lexer.specs.Split.{Statement}
use Rattle.afl_outside.specs.Disk.{Moment}
use Rattle.afl_outside.specs.Source.{SourceState}
use Rattle.afl_outside.specs.Sink.{SinkState}
use Rattle.store_state.specs.declared.state.event.Event.{Event}
use Rattle.snapshot_manager.specs.Start.{Start}
use Rattle.statement_replies.specs.declared.replies.style.Style.{Style}
use Rattle.snapshot_manager.specs.Told.{is_sealed}
use Rattle.run_opening.specs.declared.reports.reports.Mark.{Mark}
use Rattle.run_opening.specs.declared.reports.reports.SessionEnd.{SessionEnd}
use Rattle.afl_session.specs.Histories.{IsMarkedIn}
use Rattle.afl_session.specs.Marked.{IsMarked}
use Rattle.afl_session.specs.Session.{Serves}

-- WHAT A MARK TELLS STAYS, whatever comes later in the history
abbrev pub MarksStay : {D : Type 0} → (D → Moment) → Type 0
MarksStay {D} moment = (style : Style) (origin : Start D) (session : ℕ) (old new later : List Event) (last : ℕ) (statement : Statement)
    (mark : Mark) (written : List ℕ) → IsTrue (list_all is_sealed new)
    → IsMarked style moment origin session old new last statement mark written
    → IsMarkedIn style moment origin session (new ++ later) old new last statement mark written

-- what a session served is told of the whole history that begins with all that it had seen at its end
abbrev pub SessionsStay : {D : Type 0} → (D → Moment) → Type 0
SessionsStay {D} moment = (style : Style) (origin : Start D) (session : ℕ) (old new later : List Event) (last : ℕ) (source source' : SourceState)
    (sink sink' : SinkState) (marks : List Mark) (end : SessionEnd) → IsTrue (list_all is_sealed new)
    → Serves (IsMarked style moment origin session) old last new source source' sink sink' marks end
    → Serves (IsMarkedIn style moment origin session (new ++ later)) old last new source source' sink sink' marks end
