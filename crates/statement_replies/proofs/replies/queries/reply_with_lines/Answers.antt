use Rattle.std.proofs.Common.{◌≡◌, List, ℕ, IfOk, subst}
use Rattle.logical_plan.specs.PlanSchema.{schema_of}
use Rattle.chunk_exec.specs.Held.{rows_held}
use Rattle.chunk_exec.specs.Found.{IsFound}
use Rattle.logical_plan.specs.Meaning.{Database, meaning}
use Rattle.statement_replies.specs.Kinds.{IsRowsOver, IsTextOrRefusal}
use Rattle.statement_replies.specs.Reply.{plan_reply}
use Rattle.statement_replies.specs.declared.replies.replies.Reply.{Reply}
use Rattle.statement_replies.proofs.PlanReplies.{lines_told}
use Rattle.statement_replies.proofs.Replying.{reply_cause, reply_holds}
use Rattle.statement_replies.proofs.replies.queries.reply_with_lines.Goals as goal

pub returns-clause-kind : goal.returns-clause-kind
returns-clause-kind g c schema =
    let plan = c.args.plan.now in
    reply_holds (IsRowsOver (g.S.ChunkSource.state c.args.source.now) c.args.style plan) c.reply_of.result c.or_fault.result c.or_fault.ensures
    (subst (λ (z : List ℕ). IfOk c.reply_of.result (IsTextOrRefusal c.args.style z (schema_of plan))) c.in_ok-lines.ensures.over (c.reply_of.ensures.kind (schema_of plan) schema))

pub returns-clause-told : goal.returns-clause-told
returns-clause-told g c =
    let style = c.args.style in
    let plan = c.args.plan.now in
    let source = g.S.ChunkSource.state c.args.source.now in
    let found = rows_held c.args.found.now in
    let told : Reply → Type 0 = λ reply. (db : Database) → source.tells db → IsFound (meaning db plan) found → reply ≡ plan_reply style db plan in
    reply_holds told c.reply_of.result c.or_fault.result c.or_fault.ensures (lines_told source style plan c.in_ok-lines.lines found c.reply_of.result c.in_ok-lines.ensures.told c.reply_of.ensures.told)

pub returns-clause-cause : goal.returns-clause-cause
returns-clause-cause g c =
    reply_cause (g.S.ChunkSource.state c.args.source.now) (g.S.ChunkSource.state c.lines_wanted.new.source) c.in_ok-lines.ensures.cause c.reply_of.result c.or_fault.result c.or_fault.ensures

pub returns-clause-kept : goal.returns-clause-kept
returns-clause-kept g c = c.in_ok-lines.ensures.kept

pub returns-clause-asked : goal.returns-clause-asked
returns-clause-asked g c = c.in_ok-lines.ensures.asked

pub returns-clause-start : goal.returns-clause-start
returns-clause-start g c = c.in_ok-lines.ensures.start
