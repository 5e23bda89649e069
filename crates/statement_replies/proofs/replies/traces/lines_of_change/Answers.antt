use Rattle.std.proofs.Common.{ap, refl, sym, subst, ◌∙◌}
use Rattle.chunk_source.proofs.ReadLemmas.{keeps_still}
use Rattle.statement_replies.specs.Traces.{CanTrace, change_lines, change_lines_over}
use Rattle.statement_replies.proofs.Lines.{insert_over, insert_told, store_over, store_told}
use Rattle.statement_replies.proofs.replies.traces.lines_of_change.Goals as goal

pub plan_lines-requires-clause-typed : goal.plan_lines-requires-clause-typed
plan_lines-requires-clause-typed g c = (subst (CanTrace (g.S.ChunkSource.state c.args.source.now)) c.in-Store.is c.requires).typed

pub plan_lines-requires-clause-reads : goal.plan_lines-requires-clause-reads
plan_lines-requires-clause-reads g c = (subst (CanTrace (g.S.ChunkSource.state c.args.source.now)) c.in-Store.is c.requires).reads

pub insert_lines-requires : goal.insert_lines-requires
insert_lines-requires g c = subst (CanTrace (g.S.ChunkSource.state c.args.source.now)) c.in-Insert.is c.requires

pub returns-in-Store-clause-listed : goal.returns-in-Store-clause-listed
returns-in-Store-clause-listed g c =
    let names = c.args.names.now in
    let source = g.S.ChunkSource.state c.args.source.now in
    let change = c.args.change.now in
    let arm = c.in-Store in
    let by = c.plan_lines.ensures in
    record {
      over = store_over names source change c.args.target arm.name arm.schema arm.plan c.plan_lines.result arm.is by.over;
      told = store_told names source change c.args.target arm.name arm.schema arm.plan c.plan_lines.result arm.is by.told;
      asked = by.asked;
      kept = by.kept;
      cause = by.cause;
    }

pub returns-in-Store-clause-start : goal.returns-in-Store-clause-start
returns-in-Store-clause-start g c = c.plan_lines.ensures.start

pub returns-in-Insert-clause-listed : goal.returns-in-Insert-clause-listed
returns-in-Insert-clause-listed g c =
    let names = c.args.names.now in
    let source = g.S.ChunkSource.state c.args.source.now in
    let change = c.args.change.now in
    let arm = c.in-Insert in
    let by = c.insert_lines.ensures in
    record {
      over = insert_over names source change c.args.target arm.name arm.schema arm.plan c.insert_lines.result arm.is by.over;
      told = insert_told names source change c.args.target arm.name arm.schema arm.plan c.insert_lines.result arm.is by.told;
      asked = by.asked;
      kept = by.kept;
      cause = by.cause;
    }

pub returns-in-Insert-clause-start : goal.returns-in-Insert-clause-start
returns-in-Insert-clause-start g c = c.insert_lines.ensures.start

pub returns-in-Create-clause-listed : goal.returns-in-Create-clause-listed
returns-in-Create-clause-listed g c = record {
  over = c.new.ensures ∙ sym (ap (change_lines_over c.args.names.now (g.S.ChunkSource.state c.args.source.now) c.args.target) c.in-Create.is);
  told = λ db there. c.new.ensures ∙ sym (ap (change_lines db) c.in-Create.is);
  asked = refl;
  kept = keeps_still (g.S.ChunkSource.state c.args.source.now);
  cause = refl;
}

pub returns-in-Create-clause-start : goal.returns-in-Create-clause-start
returns-in-Create-clause-start g c = refl

pub returns-in-Remove-clause-listed : goal.returns-in-Remove-clause-listed
returns-in-Remove-clause-listed g c = record {
  over = c.new-in-Remove.ensures ∙ sym (ap (change_lines_over c.args.names.now (g.S.ChunkSource.state c.args.source.now) c.args.target) c.in-Remove.is);
  told = λ db there. c.new-in-Remove.ensures ∙ sym (ap (change_lines db) c.in-Remove.is);
  asked = refl;
  kept = keeps_still (g.S.ChunkSource.state c.args.source.now);
  cause = refl;
}

pub returns-in-Remove-clause-start : goal.returns-in-Remove-clause-start
returns-in-Remove-clause-start g c = refl

pub returns-in-RemoveVersions-clause-listed : goal.returns-in-RemoveVersions-clause-listed
returns-in-RemoveVersions-clause-listed g c = record {
  over = c.new-in-RemoveVersions.ensures ∙ sym (ap (change_lines_over c.args.names.now (g.S.ChunkSource.state c.args.source.now) c.args.target) c.in-RemoveVersions.is);
  told = λ db there. c.new-in-RemoveVersions.ensures ∙ sym (ap (change_lines db) c.in-RemoveVersions.is);
  asked = refl;
  kept = keeps_still (g.S.ChunkSource.state c.args.source.now);
  cause = refl;
}

pub returns-in-RemoveVersions-clause-start : goal.returns-in-RemoveVersions-clause-start
returns-in-RemoveVersions-clause-start g c = refl
