use Rattle.logical_plan.specs.Meaning.{Database}
use Rattle.changed_chunks.specs.Traced.{lines_over, plan_lines}
use Rattle.statement_replies.proofs.Lines.{unwanted, wanted, wanted_told}
use Rattle.statement_replies.proofs.replies.traces.lines_wanted.Goals as goal

pub returns-then-style-clause-over : goal.returns-then-style-clause-over
returns-then-style-clause-over g c =
    wanted c.plan_lines.result c.args.style c.if-style.true (lines_over (g.S.ChunkSource.state c.args.source.now) c.args.plan.now) c.plan_lines.ensures.over

pub returns-then-style-clause-told : goal.returns-then-style-clause-told
returns-then-style-clause-told g c =
    wanted_told c.plan_lines.result c.args.style c.if-style.true (g.S.ChunkSource.state c.args.source.now).tells (λ (rows : Database). plan_lines rows c.args.plan.now) c.plan_lines.ensures.told

pub returns-else-style-clause-over : goal.returns-else-style-clause-over
returns-else-style-clause-over g c = unwanted c.args.style (lines_over (g.S.ChunkSource.state c.args.source.now) c.args.plan.now) c.new.result c.if-style.false c.new.ensures

pub returns-else-style-clause-told : goal.returns-else-style-clause-told
returns-else-style-clause-told g c rows tells = unwanted c.args.style (plan_lines rows c.args.plan.now) c.new.result c.if-style.false c.new.ensures
