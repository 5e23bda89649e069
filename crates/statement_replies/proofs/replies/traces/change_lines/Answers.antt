use Rattle.chunk_source.proofs.ReadLemmas.{keeps_still}
use Rattle.plan_changes.specs.Databases.{Database}
use Rattle.statement_replies.specs.Traces.{IsTracedIn, change_lines, change_lines_over}
use Rattle.statement_replies.proofs.Lines.{unwanted, wanted, wanted_told}
use Rattle.statement_replies.proofs.replies.traces.change_lines.Goals as goal

pub returns-then-style-clause-over : goal.returns-then-style-clause-over
returns-then-style-clause-over g c =
    wanted c.lines_of_change.result c.args.style c.if-style.true (change_lines_over c.args.names.now (g.S.ChunkSource.state c.args.source.now) c.args.target c.args.change.now)
    c.lines_of_change.ensures.listed.over

pub returns-then-style-clause-told : goal.returns-then-style-clause-told
returns-then-style-clause-told g c =
    wanted_told c.lines_of_change.result c.args.style c.if-style.true (IsTracedIn c.args.names.now (g.S.ChunkSource.state c.args.source.now) c.args.change.now c.args.target)
    (λ (db : Database). change_lines db c.args.change.now) c.lines_of_change.ensures.listed.told

pub returns-else-style-clause-over : goal.returns-else-style-clause-over
returns-else-style-clause-over g c =
    unwanted c.args.style (change_lines_over c.args.names.now (g.S.ChunkSource.state c.args.source.now) c.args.target c.args.change.now) c.new.result c.if-style.false c.new.ensures

pub returns-else-style-clause-told : goal.returns-else-style-clause-told
returns-else-style-clause-told g c db there = unwanted c.args.style (change_lines db c.args.change.now) c.new.result c.if-style.false c.new.ensures

pub returns-then-style-clause-asked : goal.returns-then-style-clause-asked
returns-then-style-clause-asked g c = c.lines_of_change.ensures.listed.asked

pub returns-then-style-clause-kept : goal.returns-then-style-clause-kept
returns-then-style-clause-kept g c = c.lines_of_change.ensures.listed.kept

pub returns-then-style-clause-cause : goal.returns-then-style-clause-cause
returns-then-style-clause-cause g c = c.lines_of_change.ensures.listed.cause

pub returns-else-style-clause-kept : goal.returns-else-style-clause-kept
returns-else-style-clause-kept g c = keeps_still (g.S.ChunkSource.state c.args.source.now)
