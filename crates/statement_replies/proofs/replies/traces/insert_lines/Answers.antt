use Rattle.statement_replies.specs.Traces.{newest_leaf}
use Rattle.statement_replies.proofs.Lines.{one_more_over, one_more_told}
use Rattle.statement_replies.proofs.replies.traces.insert_lines.Goals as goal

pub returns-clause-over : goal.returns-clause-over
returns-clause-over g c schema =
    one_more_over c.args.plan.now (newest_leaf c.args.names.now c.args.name.now schema) c.args.target c.in_ok-lines.lines c.push_newest.new.lines
    (c.in_ok-push_newest.ensures schema) (g.S.ChunkSource.state c.args.source.now) c.in_ok-lines.ensures.over

pub returns-clause-told : goal.returns-clause-told
returns-clause-told g c rows tells schema =
    one_more_told c.args.plan.now (newest_leaf c.args.names.now c.args.name.now schema) c.args.target c.in_ok-lines.lines c.push_newest.new.lines
    (c.in_ok-push_newest.ensures schema) rows (c.in_ok-lines.ensures.told rows tells)

pub returns-clause-kept : goal.returns-clause-kept
returns-clause-kept g c = c.in_ok-lines.ensures.kept

pub returns-clause-cause : goal.returns-clause-cause
returns-clause-cause g c = c.in_ok-lines.ensures.cause

pub returns-clause-start : goal.returns-clause-start
returns-clause-start g c = c.in_ok-lines.ensures.start

pub returns-clause-asked : goal.returns-clause-asked
returns-clause-asked g c = c.in_ok-lines.ensures.asked

pub returns-in_err-push_newest-clause-kept : goal.returns-in_err-push_newest-clause-kept
returns-in_err-push_newest-clause-kept g c = c.in_ok-lines.ensures.kept

pub returns-in_err-push_newest-clause-asked : goal.returns-in_err-push_newest-clause-asked
returns-in_err-push_newest-clause-asked g c = c.in_ok-lines.ensures.asked

pub returns-in_err-push_newest-clause-start : goal.returns-in_err-push_newest-clause-start
returns-in_err-push_newest-clause-start g c = c.in_ok-lines.ensures.start
