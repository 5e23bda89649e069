use Rattle.std.proofs.Common.{Some, subst, sym}
use Rattle.std.specs.Prelude.{IfOk}
use Rattle.plan_changes.specs.declared.change.Change.{Change}
use Rattle.commit_pages.specs.Changes.{ComesWith}
use Rattle.changed_chunks.specs.Changing.{CanChange}
use Rattle.changed_chunks.proofs.Asked.{insert_asked, insert_front, insert_only, store_asked, store_front, store_only}
use Rattle.changed_chunks.proofs.Told.{inserts_counted, inserts_told, stores_counted, stores_told}
use Rattle.changed_chunks.proofs.chunks.changing.changed.Goals as goal

pub returns-in-Store-clause-told : goal.returns-in-Store-clause-told
returns-in-Store-clause-told g c =
    stores_told (g.S.ChunkSource.state c.args.source.now) c.args.change.now c.args.target.now c.in-Store.name c.in-Store.schema c.in-Store.plan c.stored.result c.in-Store.is c.stored.ensures.told

pub returns-in-Insert-clause-told : goal.returns-in-Insert-clause-told
returns-in-Insert-clause-told g c =
    inserts_told (g.S.ChunkSource.state c.args.source.now) c.args.change.now c.args.target.now c.in-Insert.name c.in-Insert.schema c.in-Insert.plan c.inserted.result c.in-Insert.is c.inserted.ensures.told

pub returns-in-Store-clause-counted : goal.returns-in-Store-clause-counted
returns-in-Store-clause-counted g c =
    stores_counted (g.S.ChunkSource.state c.args.source.now) c.args.change.now c.args.target.now c.in-Store.name c.in-Store.schema c.in-Store.plan c.args.asking.now c.stored.result c.in-Store.is

pub returns-in-Insert-clause-counted : goal.returns-in-Insert-clause-counted
returns-in-Insert-clause-counted g c =
    inserts_counted (g.S.ChunkSource.state c.args.source.now) c.args.change.now c.args.target.now c.in-Insert.name c.in-Insert.schema c.in-Insert.plan c.inserted.new.asking c.inserted.result c.in-Insert.is
    c.inserted.ensures.counted

pub returns-in-Store-clause-asked : goal.returns-in-Store-clause-asked
returns-in-Store-clause-asked g c =
    store_asked c.args.change.now c.args.target.now c.in-Store.name c.in-Store.schema c.in-Store.plan (g.S.ChunkSource.state c.args.source.now) (g.S.ChunkSource.state c.stored.new.source) c.stored.result c.in-Store.is c.stored.ensures.asked

pub returns-in-Store-clause-front : goal.returns-in-Store-clause-front
returns-in-Store-clause-front g c =
    store_front c.args.change.now c.args.target.now c.in-Store.name c.in-Store.schema c.in-Store.plan (g.S.ChunkSource.state c.args.source.now) (g.S.ChunkSource.state c.stored.new.source) c.stored.result c.in-Store.is c.stored.ensures.front

pub returns-in-Store-clause-only : goal.returns-in-Store-clause-only
returns-in-Store-clause-only g c =
    store_only c.args.change.now c.args.target.now c.in-Store.name c.in-Store.schema c.in-Store.plan (g.S.ChunkSource.state c.args.source.now) (g.S.ChunkSource.state c.stored.new.source)
    c.args.asking.now c.stored.result c.in-Store.is c.stored.ensures.asked c.stored.ensures.front

pub returns-in-Insert-clause-asked : goal.returns-in-Insert-clause-asked
returns-in-Insert-clause-asked g c =
    insert_asked c.args.change.now c.args.target.now c.in-Insert.name c.in-Insert.schema c.in-Insert.plan (g.S.ChunkSource.state c.args.source.now) (g.S.ChunkSource.state c.inserted.new.source) c.inserted.result c.in-Insert.is c.inserted.ensures.asked

pub returns-in-Insert-clause-front : goal.returns-in-Insert-clause-front
returns-in-Insert-clause-front g c =
    insert_front c.args.change.now c.args.target.now c.in-Insert.name c.in-Insert.schema c.in-Insert.plan (g.S.ChunkSource.state c.args.source.now) (g.S.ChunkSource.state c.inserted.new.source) c.inserted.result c.in-Insert.is c.inserted.ensures.front

pub returns-in-Insert-clause-only : goal.returns-in-Insert-clause-only
returns-in-Insert-clause-only g c =
    insert_only c.args.change.now c.args.target.now c.in-Insert.name c.in-Insert.schema c.in-Insert.plan (g.S.ChunkSource.state c.args.source.now) (g.S.ChunkSource.state c.inserted.new.source)
    c.inserted.new.asking c.inserted.result c.in-Insert.is c.inserted.ensures.only c.inserted.ensures.some

pub returns-in-Store-clause-comes : goal.returns-in-Store-clause-comes
returns-in-Store-clause-comes g c =
    subst (λ (z : Change). IfOk c.stored.result (λ made. IfOk made (λ changed. ComesWith z (Some changed)))) (sym c.in-Store.is) c.stored.ensures.is_of

pub stored-requires-clause-can : goal.stored-requires-clause-can
stored-requires-clause-can g c κs within = subst (λ (z : Change). CanChange (g.S.ChunkSource.state c.args.source.now) z c.args.target.now) c.in-Store.is c.requires.can

pub inserted-requires-clause-reads : goal.inserted-requires-clause-reads
inserted-requires-clause-reads g c κs within = (subst (λ (z : Change). CanChange (g.S.ChunkSource.state c.args.source.now) z c.args.target.now) c.in-Insert.is c.requires.can).1

pub inserted-requires-clause-can : goal.inserted-requires-clause-can
inserted-requires-clause-can g c κs within = (subst (λ (z : Change). CanChange (g.S.ChunkSource.state c.args.source.now) z c.args.target.now) c.in-Insert.is c.requires.can).0

pub returns-in-Insert-clause-comes : goal.returns-in-Insert-clause-comes
returns-in-Insert-clause-comes g c =
    subst (λ (z : Change). IfOk c.inserted.result (λ made. IfOk made (λ changed. ComesWith z (Some changed)))) (sym c.in-Insert.is) c.inserted.ensures.is_of
