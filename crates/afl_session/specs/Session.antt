-- What a session shows: which statements it answered, and what it wrote.
--
-- The statements of its script are answered in order. A statement's mark and the text that it was answered are as `Answered` says, between what
-- the session had seen before and what it had seen then, and behind the place of its last reply. At the end Whole all was read, answered and
-- written. Where the source failed, the bytes read since the last `;` are no statement, and all others are answered. At another end some first
-- statements are answered; the texts of all but the last of them are written, and a front of the last one's.
use Rattle.std.specs.Prelude.{◌≡◌, ◌⊎◌, ℕ, ◌≤◌, Bool, true, false, List, [], ◌∷◌, ◌++◌, length}
use Rattle.std.specs.List.{concat}
use Rattle.std.specs.Io.KnownBytes.{IsAtEnd}
use Rattle.afl_lexer.specs.Split.{Statement, statements, closed_statements}
use Rattle.afl_outside.specs.Counts.{Rose}
use Rattle.afl_outside.specs.Source.{SourceState, Gives}
use Rattle.afl_outside.specs.Sink.{SinkState, Takes}
use Rattle.store_state.specs.declared.state.event.Event.{Event}
use Rattle.run_opening.specs.declared.reports.reports.Mark.{Mark}
use Rattle.run_opening.specs.declared.reports.reports.SessionEnd.{SessionEnd}
use Rattle.run_opening.specs.declared.reports.reports.SessionEnd.TheVariants.{Whole, Source, Sink, Memory}

-- what has to hold of a statement, its mark and the text that it was answered: between what its session had seen before and what it had seen
-- then, and behind the place of its last reply
abbrev pub AnswerRule : Type 1
AnswerRule = (old new : List Event) → ℕ → Statement → Mark → List ℕ → Type 0

-- the marks of these statements, and the texts that they were answered, in order
abbrev pub AreAnswered : AnswerRule → List Event → ℕ → List Statement → List Mark → List (List ℕ) → List Event → Type 0
AreAnswered Answered old last [] [] [] new = old ≡ new
AreAnswered Answered old last (s ∷ statements) (m ∷ marks) (t ∷ texts) new =
    (next : List Event) × Answered old next last s m t × AreAnswered Answered next m.place statements marks texts new
AreAnswered Answered old last _ _ _ new = ⊥

-- the statements that these bytes decide, where they are the whole script, or where more may come
abbrev pub decided : Bool → List ℕ → List Statement
decided true script = statements script
decided false script = closed_statements script

module _ (Answered : AnswerRule) (old : List Event) (last : ℕ) (new : List Event) where
  -- these statements are all answered, by these marks and these bytes
  pub record AnswersAll (statements : List Statement) (marks : List Mark) (written : List ℕ) : Type 0 where
    pub texts : List (List ℕ)
    pub each : AreAnswered Answered old last statements marks texts new
    pub whole : written ≡ concat texts

  -- some first ones of these statements are answered by these marks; these bytes are their texts, of which the last may lack its end
  pub record AnswersFront (statements : List Statement) (marks : List Mark) (written : List ℕ) : Type 0 where
    pub answered : List Statement
    pub unanswered : List Statement
    pub in_order : statements ≡ answered ++ unanswered
    -- the texts that were written whole, and at most one that was begun
    pub texts : List (List ℕ)
    pub begun : List (List ℕ)
    pub at_most_one : length begun ≤ 1
    pub each : AreAnswered Answered old last answered marks (texts ++ begun) new
    pub front : List ℕ
    pub unwritten : List ℕ
    pub parts : concat begun ≡ front ++ unwritten
    pub printed : written ≡ concat texts ++ front

  -- some first ones of these statements are all answered, and another one is left
  pub record LeavesOne (statements : List Statement) (marks : List Mark) (written : List ℕ) : Type 0 where
    pub answered : List Statement
    pub next : Statement
    pub rest : List Statement
    pub in_order : statements ≡ answered ++ next ∷ rest
    pub all : AnswersAll answered marks written

  -- what a session that ended so has answered of the bytes that it read, which are the whole script or not
  abbrev pub Replies : SessionEnd → Bool → List ℕ → List Mark → List ℕ → Type 0
  Replies Whole is_whole read marks written = (is_whole ≡ true) × AnswersAll (statements read) marks written
  Replies Source is_whole read marks written = (is_whole ≡ false) × AnswersAll (closed_statements read) marks written
  Replies _ is_whole read marks written = AnswersFront (decided is_whole read) marks written

  -- Between its start and its end a session has read these bytes and written those.
  pub record Serves (source source' : SourceState) (sink sink' : SinkState) (marks : List Mark) (end : SessionEnd) : Type 0 where
    pub read : List ℕ
    -- bytes that the source gave, and that were not looked at
    pub unread : List ℕ
    pub is_whole : Bool
    pub written : List ℕ
    pub gives : Gives source source' (read ++ unread)
    pub takes : Takes sink sink' written
    pub replies : Replies end is_whole read marks written
    pub at_end : is_whole ≡ true → IsAtEnd source'.left × (unread ≡ [])
    pub source_fault : end ≡ Source → Rose source.faults source'.faults × (unread ≡ [])
    pub sink_fault : end ≡ Sink → Rose sink.faults sink'.faults
    -- the sink found no memory, or there was none for a statement's mark
    pub memory : end ≡ Memory → Rose sink.wants sink'.wants ⊎ LeavesOne (decided is_whole read) marks written
