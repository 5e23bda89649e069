use Rattle.std.proofs.Common.{◌∙◌, inl, inr}
use Rattle.session_answers.proofs.replies.reply.refusal_at.Goals as goal

pub returns-in-Ok-clause-words : goal.returns-in-Ok-clause-words
returns-in-Ok-clause-words c = inl (c.at_place.ensures.words ∙ c.in-Ok.ensures)

pub returns-in-Err-clause-words : goal.returns-in-Err-clause-words
returns-in-Err-clause-words c = inr c.want.ensures.want
