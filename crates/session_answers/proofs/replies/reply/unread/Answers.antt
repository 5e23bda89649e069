use Rattle.std.proofs.Common.{subst, sym}
use Rattle.session_answers.specs.Refusals.{IsUnreadReply}
use Rattle.session_answers.proofs.replies.reply.unread.Goals as goal

pub returns-in-Source-clause-words : goal.returns-in-Source-clause-words
returns-in-Source-clause-words c = subst (λ fault. IsUnreadReply fault c.refusal_at.result) (sym c.in-Source.is) c.refusal_at.ensures.words

pub returns-in-Damaged-clause-words : goal.returns-in-Damaged-clause-words
returns-in-Damaged-clause-words c = subst (λ fault. IsUnreadReply fault c.refusal_at-in-Damaged.result) (sym c.in-Damaged.is) c.refusal_at-in-Damaged.ensures.words

pub returns-in-Memory-clause-words : goal.returns-in-Memory-clause-words
returns-in-Memory-clause-words c = subst (λ fault. IsUnreadReply fault c.want.result) (sym c.in-Memory.is) c.want.ensures.want
