use Rattle.std.proofs.Common.{◌≡◌, List, ℕ, ap}
use Rattle.plan_changes.specs.Databases.{Database}
use Rattle.statement_replies.specs.Reply.{traced}
use Rattle.statement_replies.specs.StatementKinds.{IsChangeReply}
use Rattle.statement_replies.specs.Statements.{change_reply}
use Rattle.statement_replies.specs.Traces.{IsTracedIn, change_lines, change_lines_over}
use Rattle.statement_replies.specs.declared.replies.replies.Reply.{Reply}
use Rattle.statement_replies.proofs.Lines.{lines_are}
use Rattle.statement_replies.proofs.Replying.{as_reply, reply_cause, reply_holds}
use Rattle.statement_replies.proofs.answers.changes.reply_of_change.Goals as goal

pub returns-clause-kind : goal.returns-clause-kind
returns-clause-kind g c =
    let names = c.args.names.now in
    let source = g.S.ChunkSource.state c.args.source.now in
    let change = c.args.change.now in
    let kind : Reply → Type 0 = IsChangeReply c.args.style names change in
    reply_holds kind c.accepted_reply.result c.or_fault.result c.or_fault.ensures
    (as_reply kind (change_reply names c.in_ok-lines.lines change) c.accepted_reply.result c.accepted_reply.ensures (
      change_lines_over names source c.args.target change,
      lines_are names source change c.args.target,
      ap (λ (lines : List ℕ). change_reply names lines change) c.in_ok-lines.ensures.over,
    ))

pub returns-clause-told : goal.returns-clause-told
returns-clause-told g c =
    let names = c.args.names.now in
    let source = g.S.ChunkSource.state c.args.source.now in
    let change = c.args.change.now in
    let told : Reply → Type 0 = λ reply. (db : Database) → IsTracedIn names source change c.args.target db → reply ≡ change_reply names (traced c.args.style (change_lines db change)) change in
    reply_holds told c.accepted_reply.result c.or_fault.result c.or_fault.ensures
    (as_reply told (change_reply names c.in_ok-lines.lines change) c.accepted_reply.result c.accepted_reply.ensures
    (λ db there. ap (λ (lines : List ℕ). change_reply names lines change) (c.in_ok-lines.ensures.told db there)))

pub returns-clause-cause : goal.returns-clause-cause
returns-clause-cause g c =
    reply_cause (g.S.ChunkSource.state c.args.source.now) (g.S.ChunkSource.state c.change_lines.new.source) c.in_ok-lines.ensures.cause c.accepted_reply.result c.or_fault.result c.or_fault.ensures

pub returns-clause-kept : goal.returns-clause-kept
returns-clause-kept g c = c.in_ok-lines.ensures.kept

pub returns-clause-asked : goal.returns-clause-asked
returns-clause-asked g c = c.in_ok-lines.ensures.asked

pub returns-clause-start : goal.returns-clause-start
returns-clause-start g c = c.in_ok-lines.ensures.start
