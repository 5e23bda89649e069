use Rattle.std.proofs.Common.{Result, subst}
use Rattle.afl_types.specs.declared.types.statements.checking.Typed.TheVariants.{Query as AQuery}
use Rattle.chunk_source.specs.declared.reading.fault.ExecFault.{ExecFault}
use Rattle.statement_replies.specs.declared.replies.replies.Reply.{Reply}
use Rattle.statement_replies.specs.Inner.Come.{ComesOf}
use Rattle.statement_replies.proofs.Answering.{good}
use Rattle.statement_replies.proofs.Coming.{of_reply, query_comes}
use Rattle.statement_replies.proofs.answers.statements.outcome_of_query.Goals as goal

pub answer_query-answer-requires-clause-undamaged : goal.answer_query-answer-requires-clause-undamaged
answer_query-answer-requires-clause-undamaged g c κs within = c.requires.ready.undamaged

pub answer_query-answer-requires-clause-can : goal.answer_query-answer-requires-clause-can
answer_query-answer-requires-clause-can g c κs within = c.requires.can

pub answer_query-answer-requires-clause-workers : goal.answer_query-answer-requires-clause-workers
answer_query-answer-requires-clause-workers g c κs within = c.requires.ready.workers

pub returns-in-Ok-clause-come : goal.returns-in-Ok-clause-come
returns-in-Ok-clause-come g c =
    let names = c.args.names.now in
    let old = g.S.ChunkSource.state c.args.source.now in
    let new = g.S.ChunkSource.state c.answer_query-answer.new.source in
    let by = c.answer_query-answer.ensures in
    subst (λ (r : Result Reply ExecFault). ComesOf c.args.style names old new (good (AQuery c.args.plan)) (of_reply r)) c.in-Ok.is
    (query_comes c.args.style names old new c.args.plan c.answer_query-answer.result by.kind by.told by.asked by.front by.kept by.cause)

pub returns-in-Ok-clause-start : goal.returns-in-Ok-clause-start
returns-in-Ok-clause-start g c = c.answer_query-answer.ensures.start

pub returns-in-Err-clause-come : goal.returns-in-Err-clause-come
returns-in-Err-clause-come g c =
    let names = c.args.names.now in
    let old = g.S.ChunkSource.state c.args.source.now in
    let new = g.S.ChunkSource.state c.answer_query-answer.new.source in
    let by = c.answer_query-answer.ensures in
    subst (λ (r : Result Reply ExecFault). ComesOf c.args.style names old new (good (AQuery c.args.plan)) (of_reply r)) c.in-Err.is
    (query_comes c.args.style names old new c.args.plan c.answer_query-answer.result by.kind by.told by.asked by.front by.kept by.cause)

pub returns-in-Err-clause-start : goal.returns-in-Err-clause-start
returns-in-Err-clause-start g c = c.answer_query-answer.ensures.start
