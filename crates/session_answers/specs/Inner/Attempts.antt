-- What came of a statement that was read: its reply, or the change that it was.
use Rattle.std.specs.Prelude.{◌≡◌, ℕ, Result, Ok, Err}
use Rattle.chunk_source.specs.declared.reading.fault.ExecFault.{ExecFault}
use Rattle.statement_replies.specs.declared.answers.outcome.Outcome.{Outcome}
use Rattle.statement_replies.specs.declared.answers.outcome.Outcome.TheVariants.{Replied, Changes}
use Rattle.session_answers.specs.Refusals.{IsUnreadReply}
use Rattle.session_answers.specs.Replies.{words_of}
use Rattle.session_answers.specs.declared.replies.attempt.Attempt.{Attempt}
use Rattle.session_answers.specs.declared.replies.reply.Reply.{Reply}

-- the reply is at this place
abbrev pub TellsRead : ℕ → Result Outcome ExecFault → Result Reply Attempt → Type 0
TellsRead place (Ok (Replied words)) (Ok reply) = (words_of reply ≡ words) × (reply.place ≡ place)
TellsRead place (Ok (Replied words)) (Err attempt) = ⊥
TellsRead place (Ok (Changes change changed words)) (Ok reply) = ⊥
TellsRead place (Ok (Changes change changed words)) (Err attempt) = attempt ≡ record { change = change; changed = changed; words = words }
TellsRead place (Err fault) (Ok reply) = IsUnreadReply fault reply × (reply.place ≡ place)
TellsRead place (Err fault) (Err attempt) = ⊥
