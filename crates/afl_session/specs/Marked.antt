-- The mark of a statement that a session was answered, and the text that was written for it.
--
-- A statement that is too long is told so: its session does nothing for it, and its place is that of the last reply. Any other is answered as
-- its text says. Where no memory was found for a reply, its text is empty, the line of that is written, and its place is behind all that the
-- session had seen.
use Rattle.std.specs.Prelude.{◌≡◌, ◌⊎◌, ℕ, ◌-◌, if◌then◌else◌, List, [], Option, None, Some}
use Rattle.afl_lexer.specs.Split.{Statement}
use Rattle.afl_outside.specs.Disk.{Moment}
use Rattle.result_print.specs.declared.refusal.Refusal.TheVariants.{Memory}
use Rattle.statement_replies.specs.Reply.{memory_line, too_long}
use Rattle.session_answers.specs.Answered.{IsAnswered}
use Rattle.store_state.specs.declared.state.event.Event.{Event}
use Rattle.session_answers.specs.Refusals.{IsWantBetween}
use Rattle.session_answers.specs.Replies.{words_of}
use Rattle.session_answers.specs.declared.replies.reply.Reply.{Reply}
use Rattle.snapshot_manager.specs.Start.{Start}
use Rattle.statement_replies.specs.declared.replies.style.Style.{Style}
use Rattle.run_opening.specs.declared.reports.reports.Mark.{Mark}
use Rattle.run_opening.specs.Outcomes.{is_want}
use Rattle.afl_session.specs.Session.{AnswerRule}

-- what is written for a reply
abbrev pub written_for : Reply → List ℕ
written_for reply = if is_want reply.refusal then memory_line else reply.text

-- the reply that a mark and what was written for it tell
abbrev pub reply_told : Mark → List ℕ → Reply
reply_told mark written =
    record { text = if is_want mark.refusal then [] else written; refusal = mark.refusal; place = mark.place }

-- the reply to a statement of too many bytes: that, at the place of the last reply; or that no memory was found. Its session did nothing
pub record IsTooLongReply (old new : List Event) (last bytes : ℕ) (reply : Reply) : Type 0 where
  pub same : new ≡ old
  pub words : ((words_of reply ≡ too_long bytes) × (reply.place ≡ last)) ⊎ IsWantBetween old new reply

-- what has to hold of a text and its reply, between what its session had seen before and then, and behind the place of its last reply
abbrev pub ReplyRule : Type 1
ReplyRule = (old new : List Event) → ℕ → List ℕ → Reply → Type 0

module _ (Replied : ReplyRule) (old new : List Event) (last : ℕ) where
  -- the reply to a statement, of which this is the number of bytes, and these are the bytes; it is too long where they aren't there
  abbrev pub IsReplyOf : ℕ → Option (List ℕ) → Reply → Type 0
  IsReplyOf bytes None reply = IsTooLongReply old new last bytes reply
  IsReplyOf bytes (Some text) reply = Replied old new last text reply

  -- a statement's mark, and what was written for it
  pub record IsMarkedBy (statement : Statement) (mark : Mark) (written : List ℕ) : Type 0 where
    pub start : mark.start ≡ statement.start
    pub end : mark.end ≡ statement.end
    pub reply : IsReplyOf (statement.end - statement.start) statement.text (reply_told mark written)
    pub want : mark.refusal ≡ Some Memory → written ≡ memory_line

module _ {D : Type 0} (style : Style) (moment : D → Moment) (origin : Start D) (session : ℕ) where
  -- a text is answered, in this style, by a session of a store that began so
  abbrev pub AnswersText : ReplyRule
  AnswersText old new last text reply = IsAnswered style moment origin session last old new text reply

  -- A STATEMENT'S MARK, AND THE TEXT THAT IT WAS ANSWERED
  abbrev pub IsMarked : AnswerRule
  IsMarked old new last statement mark written = IsMarkedBy AnswersText old new last statement mark written
