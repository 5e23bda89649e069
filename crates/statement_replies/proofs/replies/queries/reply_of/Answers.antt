use Rattle.std.proofs.Common.{subst}
use Rattle.chunk_exec.specs.declared.rows.rows.answers.rows.PlanArray.{PlanArray}
use Rattle.chunk_exec.specs.Found.{HasSchema}
use Rattle.chunk_exec.specs.Held.{HoldsCells, rows_held}
use Rattle.statement_replies.proofs.PlanReplies.{cores_kind}
use Rattle.statement_replies.proofs.replies.queries.reply_of.Goals as goal

pub returns-in_ok-text_with-in-Whole-clause-kind : goal.returns-in_ok-text_with-in-Whole-clause-kind
returns-in_ok-text_with-in-Whole-clause-kind c schema has =
    cores_kind c.args.style c.args.lines.now schema c.in-Whole.array c.in_ok-text_with-in-Whole.field-0
    (subst (λ (found : PlanArray). HoldsCells found) c.in-Whole.is c.requires)
    (subst (λ (found : PlanArray). HasSchema schema (rows_held found)) c.in-Whole.is has)
    c.in_ok-text_with-in-Whole.ensures
