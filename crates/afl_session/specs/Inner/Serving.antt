-- A session between two bytes of its script.
use Rattle.std.specs.Prelude.{◌≡◌, ◌⊎◌, ℕ, true, List, [], ◌∷◌, ◌++◌, Option, None, Some, Result, MatchResult}
use Rattle.afl_lexer.specs.Split.{Statement, closed_statements, statements as all_statements}
use Rattle.afl_lexer.specs.Inner.Standing.{Splitting, StandsAfter}
use Rattle.afl_outside.specs.Counts.{Rose}
use Rattle.afl_outside.specs.Sink.{SinkState, Takes}
use Rattle.store_state.specs.declared.state.event.Event.{Event}
use Rattle.session_answers.specs.declared.replies.reply.Reply.{Reply}
use Rattle.afl_session.specs.Session.{AnswerRule, AnswersAll, AnswersFront, LeavesOne, Replies}
use Rattle.run_opening.specs.declared.reports.reports.Mark.{Mark}
use Rattle.afl_session.specs.declared.scripts.streams.Stopped.{Stopped}
use Rattle.afl_session.specs.declared.scripts.streams.Stopped.TheVariants.{Fault}
use Rattle.afl_session.specs.declared.scripts.streams.Stopped.TheVariants as causes
use Rattle.run_opening.specs.declared.reports.reports.SessionEnd.{SessionEnd}
use Rattle.run_opening.specs.declared.reports.reports.SessionEnd.TheVariants as ends
use Rattle.run_opening.specs.declared.reports.reports.SessionEnd.TheVariants.{Sink}

abbrev pub statement_at : ℕ → ℕ → Option (List ℕ) → Statement
statement_at start end text = record { start = start; end = end; text = text }

-- the mark of a statement with this reply
abbrev pub mark_at : ℕ → ℕ → Reply → Mark
mark_at start end reply = record { start = start; end = end; place = reply.place; refusal = reply.refusal }

-- ---- how far a session has come

-- what a session has seen, the place of its last reply, and what its sink is
pub record Reached : Type 0 where
  pub seen : List Event
  pub last : ℕ
  pub sink : SinkState

abbrev pub reached : List Event → ℕ → SinkState → Reached
reached seen last sink = record { seen = seen; last = last; sink = sink }

-- the place of the last of some marks, which come behind this one
abbrev pub place_after : ℕ → List Mark → ℕ
place_after last [] = last
place_after last (mark ∷ marks) = place_after mark.place marks

-- ---- what it has done since

module _ (Answered : AnswerRule) (first now : Reached) where
  -- these statements were all answered
  pub record HasAnswered (statements : List Statement) (marks : List Mark) : Type 0 where
    pub written : List ℕ
    pub takes : Takes first.sink now.sink written
    pub answers : AnswersAll Answered first.seen first.last now.seen statements marks written
    pub place : now.last ≡ place_after first.last marks

  -- some first ones of these statements were answered, and then the sink failed or no memory was found
  pub record HasStopped (statements : List Statement) (marks : List Mark) (stopped : Stopped) : Type 0 where
    pub written : List ℕ
    pub takes : Takes first.sink now.sink written
    pub answers : AnswersFront Answered first.seen first.last now.seen statements marks written
    pub fault : stopped ≡ Fault → Rose first.sink.faults now.sink.faults
    pub memory : stopped ≡ causes.Memory
        → Rose first.sink.wants now.sink.wants ⊎ LeavesOne Answered first.seen first.last now.seen statements marks written

  -- after these bytes of the script all statements that a `;` ended are answered
  pub record IsServing (script : List ℕ) (splitter : Splitting) (marks : List Mark) : Type 0 where
    pub stands : StandsAfter script splitter
    pub answered : HasAnswered (closed_statements script) marks

  -- it stopped after some of the bytes that came behind a script
  pub record StopsWithin (script bytes : List ℕ) (marks : List Mark) (stopped : Stopped) : Type 0 where
    pub done : List ℕ
    pub unread : List ℕ
    pub pieces : bytes ≡ done ++ unread
    pub stops : HasStopped (closed_statements (script ++ done)) marks stopped

  -- it was at the script's end, and ended so
  pub record EndsServing (script : List ℕ) (marks : List Mark) (end : SessionEnd) : Type 0 where
    pub written : List ℕ
    pub takes : Takes first.sink now.sink written
    pub replies : Replies Answered first.seen first.last now.seen end true script marks written
    pub fault : end ≡ Sink → Rose first.sink.faults now.sink.faults
    pub memory : end ≡ ends.Memory
        → Rose first.sink.wants now.sink.wants ⊎ LeavesOne Answered first.seen first.last now.seen (all_statements script) marks written

-- A SESSION GOES ON: where it had answered some statements, it has answered these besides, or stopped at one of them
abbrev pub GoesOn : AnswerRule → Reached → Reached → List Mark → List Mark → List Statement → Result (Unit {0}) Stopped → Type 0
GoesOn Answered now now' marks marks' more outcome = (first : Reached) (before : List Statement) → HasAnswered Answered first now before marks
    → MatchResult outcome (λ _. HasAnswered Answered first now' (before ++ more) marks') (HasStopped Answered first now' (before ++ more) marks')

-- the end of a session that stopped so
abbrev pub end_of : Stopped → SessionEnd
end_of Fault = Sink
end_of causes.Memory = ends.Memory

module _ (Answered : AnswerRule) (first now : Reached) where
  -- the next bytes of a script were taken, of which none is its end: all is answered so far, or the session ended there
  abbrev pub HasTaken : List ℕ → List ℕ → Splitting → List Mark → Option SessionEnd → Type 0
  HasTaken script bytes splitter marks None = IsServing Answered first now (script ++ bytes) splitter marks
  HasTaken script bytes splitter marks (Some end) =
      ((bytes ≡ []) × EndsServing Answered first now script marks end)
      ⊎ ((stopped : Stopped) × (end ≡ end_of stopped) × StopsWithin Answered first now script bytes marks stopped)
