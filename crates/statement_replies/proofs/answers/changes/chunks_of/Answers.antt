use Rattle.std.proofs.Common.{None, Ok, refl, subst, sym}
use Rattle.plan_changes.specs.declared.change.Change.{Change}
use Rattle.statement_replies.specs.Inner.Come.{AreMade}
use Rattle.statement_replies.specs.Inner.Made.{IsPutUnder}
use Rattle.statement_replies.proofs.Making.{create_made, cut_made, remove_made}
use Rattle.statement_replies.proofs.answers.changes.chunks_of.Goals as goal

pub returns-in-Store-clause-made : goal.returns-in-Store-clause-made
returns-in-Store-clause-made g c = c.chunks_put.ensures.made

pub returns-in-Store-clause-start : goal.returns-in-Store-clause-start
returns-in-Store-clause-start g c = c.chunks_put.ensures.start

pub returns-in-Insert-clause-made : goal.returns-in-Insert-clause-made
returns-in-Insert-clause-made g c = c.chunks_put-in-Insert.ensures.made

pub returns-in-Insert-clause-start : goal.returns-in-Insert-clause-start
returns-in-Insert-clause-start g c = c.chunks_put-in-Insert.ensures.start

pub returns-in-Create-clause-made : goal.returns-in-Create-clause-made
returns-in-Create-clause-made g c =
    let source = g.S.ChunkSource.state c.args.source.now in
    subst (λ (z : Change). AreMade c.args.names.now source source z c.args.asking.now (Ok (Ok None))) (sym c.in-Create.is) (create_made c.args.names.now source c.args.asking.now _ _)

pub returns-in-Remove-clause-made : goal.returns-in-Remove-clause-made
returns-in-Remove-clause-made g c =
    let source = g.S.ChunkSource.state c.args.source.now in
    subst (λ (z : Change). AreMade c.args.names.now source source z c.args.asking.now (Ok (Ok None))) (sym c.in-Remove.is) (remove_made c.args.names.now source c.args.asking.now _)

pub returns-in-RemoveVersions-clause-made : goal.returns-in-RemoveVersions-clause-made
returns-in-RemoveVersions-clause-made g c =
    let source = g.S.ChunkSource.state c.args.source.now in
    subst (λ (z : Change). AreMade c.args.names.now source source z c.args.asking.now (Ok (Ok None))) (sym c.in-RemoveVersions.is) (cut_made c.args.names.now source c.args.asking.now _ _)

pub returns-in-Create-clause-start : goal.returns-in-Create-clause-start
returns-in-Create-clause-start g c = refl

pub returns-in-Remove-clause-start : goal.returns-in-Remove-clause-start
returns-in-Remove-clause-start g c = refl

pub returns-in-RemoveVersions-clause-start : goal.returns-in-RemoveVersions-clause-start
returns-in-RemoveVersions-clause-start g c = refl

pub chunks_put-requires-clause-ready : goal.chunks_put-requires-clause-ready
chunks_put-requires-clause-ready g c κs within = c.requires.ready

pub chunks_put-requires-clause-typed : goal.chunks_put-requires-clause-typed
chunks_put-requires-clause-typed g c κs within = c.requires.typed

pub chunks_put-requires-clause-put : goal.chunks_put-requires-clause-put
chunks_put-requires-clause-put g c κs within = subst (IsPutUnder c.in-Store.name c.in-Store.schema) (sym c.in-Store.is) (refl, refl)

pub chunks_put-requires-in-Insert-clause-ready : goal.chunks_put-requires-in-Insert-clause-ready
chunks_put-requires-in-Insert-clause-ready g c κs within = c.requires.ready

pub chunks_put-requires-in-Insert-clause-typed : goal.chunks_put-requires-in-Insert-clause-typed
chunks_put-requires-in-Insert-clause-typed g c κs within = c.requires.typed

pub chunks_put-requires-in-Insert-clause-put : goal.chunks_put-requires-in-Insert-clause-put
chunks_put-requires-in-Insert-clause-put g c κs within = subst (IsPutUnder c.in-Insert.name c.in-Insert.schema) (sym c.in-Insert.is) (refl, refl)
