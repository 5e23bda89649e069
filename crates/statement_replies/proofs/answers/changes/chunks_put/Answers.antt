use Rattle.std.proofs.Common.{Ok, refl, subst, sym}
use Rattle.afl_types.specs.declared.types.statements.checking.Typed.TheVariants.{Change as AChange}
use Rattle.chunk_source.proofs.ReadLemmas.{keeps_still}
use Rattle.statement_replies.specs.Inner.Come.{AreMade}
use Rattle.statement_replies.proofs.Asking.{none_asked}
use Rattle.statement_replies.proofs.Making.{put_made}
use Rattle.statement_replies.proofs.Targets.{can_change}
use Rattle.statement_replies.proofs.answers.changes.chunks_put.Goals as goal

pub changed-requires-clause-undamaged : goal.changed-requires-clause-undamaged
changed-requires-clause-undamaged g c κs within = c.requires.ready.undamaged

pub changed-requires-clause-can : goal.changed-requires-clause-can
changed-requires-clause-can g c κs within =
    can_change c.args.names.now (g.S.ChunkSource.state c.args.source.now) c.requires.ready.holds c.requires.ready.stored c.args.change.now c.args.name.now c.args.schema.now
    c.in-Ok.target c.in-Ok.ensures c.requires.put c.requires.typed

pub changed-requires-clause-workers : goal.changed-requires-clause-workers
changed-requires-clause-workers g c κs within = c.requires.ready.workers

pub returns-in-Ok-clause-made : goal.returns-in-Ok-clause-made
returns-in-Ok-clause-made g c =
    let names = c.args.names.now in
    let change = c.args.change.now in
    let old = g.S.ChunkSource.state c.args.source.now in
    let new = g.S.ChunkSource.state c.changed.new.source in
    let asking = c.changed.new.asking in
    let by = c.changed.ensures in
    subst (AreMade names old new change asking) (sym c.with_chunks.ensures)
    (put_made names change c.args.name.now c.args.schema.now c.in-Ok.target c.in-Ok.ensures c.requires.put old new asking c.changed.result by.comes by.valid by.told by.counted by.asked by.front by.only by.kept by.cause)

pub returns-in-Ok-clause-start : goal.returns-in-Ok-clause-start
returns-in-Ok-clause-start g c = c.changed.ensures.start

pub returns-in-Err-clause-made : goal.returns-in-Err-clause-made
returns-in-Err-clause-made g c =
    let source = g.S.ChunkSource.state c.args.source.now in
    record {
      kind = tt;
      told = tt;
      counted = tt;
      asked = tt;
      front = none_asked c.args.names.now source (Ok (AChange c.args.change.now)) source refl;
      kept = keeps_still source;
      cause = refl;
    }

pub returns-in-Err-clause-start : goal.returns-in-Err-clause-start
returns-in-Err-clause-start g c = refl
