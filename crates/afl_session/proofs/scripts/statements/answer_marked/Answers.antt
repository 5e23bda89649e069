use Rattle.afl_session.proofs.ServingLemmas.{goes_on}
use Rattle.afl_session.proofs.scripts.statements.answer_marked.Goals as goal

pub returns-clause-goes_on : goal.returns-clause-goes_on
returns-clause-goes_on g c =
    goes_on c.args.options.now.style g.D.Disk.moment _ _ _ _ _ _ c.args.from c.args.to _ c.reply_to-reply.result.0 c.write_reply-written.result c.reply_to-reply.ensures.answered c.reply_to-reply.ensures.last
    c.keep_mark.ensures c.write_reply-written.ensures.ok c.write_reply-written.ensures.err c.write_reply-written.ensures.fault c.write_reply-written.ensures.memory

pub reply_to-reply-requires-clause-seat : goal.reply_to-reply-requires-clause-seat
reply_to-reply-requires-clause-seat g c κs within = c.requires.seat

pub reply_to-reply-requires-clause-none : goal.reply_to-reply-requires-clause-none
reply_to-reply-requires-clause-none g c κs within = c.requires.none

pub reply_to-reply-requires-clause-workers : goal.reply_to-reply-requires-clause-workers
reply_to-reply-requires-clause-workers g c κs within = c.requires.workers
