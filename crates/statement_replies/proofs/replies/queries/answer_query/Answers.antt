use Rattle.std.proofs.Common.{◌∙◌}
use Rattle.chunk_source.proofs.ReadLemmas.{asked_all, keeps_on, on_err}
use Rattle.chunk_exec.specs.Held.{rows_held}
use Rattle.statement_replies.proofs.Causes.{answers_before, on_ok}
use Rattle.statement_replies.proofs.TracedReplies.{can_still, over_before, told_before}
use Rattle.statement_replies.proofs.replies.queries.answer_query.Goals as goal

pub reply_with_lines-answer-requires-clause-can : goal.reply_with_lines-answer-requires-clause-can
reply_with_lines-answer-requires-clause-can g c =
    can_still (g.S.ChunkSource.state c.args.source.now) (g.S.ChunkSource.state c.array_of.new.source) c.args.plan.now c.array_of.ensures.kept c.requires.can

pub returns-in-Ok-clause-kind : goal.returns-in-Ok-clause-kind
returns-in-Ok-clause-kind g c =
    over_before c.reply_with_lines-answer.result (g.S.ChunkSource.state c.args.source.now) (g.S.ChunkSource.state c.array_of.new.source) c.args.style c.args.plan.now c.array_of.ensures.kept
    (c.reply_with_lines-answer.ensures.kind c.in-Ok.ensures.schema)

pub returns-in-Ok-clause-told : goal.returns-in-Ok-clause-told
returns-in-Ok-clause-told g c =
    told_before c.reply_with_lines-answer.result (g.S.ChunkSource.state c.args.source.now) (g.S.ChunkSource.state c.array_of.new.source) c.args.style c.args.plan.now (rows_held c.in-Ok.found) c.array_of.ensures.kept
    c.reply_with_lines-answer.ensures.told c.in-Ok.ensures.found

pub returns-in-Ok-clause-front : goal.returns-in-Ok-clause-front
returns-in-Ok-clause-front g c = on_err _ _ (asked_all _ _ _ (c.reply_with_lines-answer.ensures.asked ∙ c.in-Ok.ensures.asked))

pub returns-in-Ok-clause-start : goal.returns-in-Ok-clause-start
returns-in-Ok-clause-start g c = c.reply_with_lines-answer.ensures.start ∙ c.array_of.ensures.start

pub returns-in-Ok-clause-kept : goal.returns-in-Ok-clause-kept
returns-in-Ok-clause-kept g c =
    keeps_on (g.S.ChunkSource.state c.args.source.now) (g.S.ChunkSource.state c.array_of.new.source) (g.S.ChunkSource.state c.reply_with_lines-answer.new.source)
    c.array_of.ensures.kept c.reply_with_lines-answer.ensures.kept

pub returns-in-Ok-clause-cause : goal.returns-in-Ok-clause-cause
returns-in-Ok-clause-cause g c =
    answers_before c.reply_with_lines-answer.result (g.S.ChunkSource.state c.args.source.now) (g.S.ChunkSource.state c.array_of.new.source)
    (g.S.ChunkSource.state c.reply_with_lines-answer.new.source) c.array_of.ensures.kept c.in-Ok.ensures.cause c.reply_with_lines-answer.ensures.cause

pub returns-in-Ok-clause-asked : goal.returns-in-Ok-clause-asked
returns-in-Ok-clause-asked g c = on_ok c.reply_with_lines-answer.result _ (c.reply_with_lines-answer.ensures.asked ∙ c.in-Ok.ensures.asked)
