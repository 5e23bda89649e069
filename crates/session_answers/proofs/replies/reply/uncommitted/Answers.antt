use Rattle.std.proofs.Common.{subst, sym}
use Rattle.session_answers.specs.Refusals.{IsUncommittedReply}
use Rattle.session_answers.proofs.replies.reply.uncommitted.Goals as goal

pub returns-in-SequenceEnd : goal.returns-in-SequenceEnd
returns-in-SequenceEnd c =
    let e = c.refusal_at.ensures in
    subst (λ fault. IsUncommittedReply c.args.seen fault c.refusal_at.result) (sym c.in-SequenceEnd.is) (e.words, e.place)

pub returns-in-Full : goal.returns-in-Full
returns-in-Full c =
    let e = c.refusal_at-in-Full.ensures in
    subst (λ fault. IsUncommittedReply c.args.seen fault c.refusal_at-in-Full.result) (sym c.in-Full.is) (e.words, e.place)

pub returns-in-Disk : goal.returns-in-Disk
returns-in-Disk c =
    let e = c.refusal_at-in-Disk.ensures in
    subst (λ fault. IsUncommittedReply c.args.seen fault c.refusal_at-in-Disk.result) (sym c.in-Disk.is) (e.words, e.place)

pub returns-in-Memory : goal.returns-in-Memory
returns-in-Memory c =
    let e = c.want.ensures in
    subst (λ fault. IsUncommittedReply c.args.seen fault c.want.result) (sym c.in-Memory.is) (e.want, e.place)
