use denote.Param.Send.{sendable}
use Rattle.std.proofs.Common.{◌≡◌, sym, subst}
use Rattle.plan_changes.specs.declared.change.Change.TheVariants.{Insert, Store}
use Rattle.plan_changes.specs.Typed.{IsTypedFor}
use Rattle.test_quiet.specs.Chunks.{CanBeMade}
use Rattle.test_quiet.proofs.Making.{insert_can_be_made, store_can_be_made}
use Rattle.test_quiet.proofs.chunks.chunks_of.Goals as goal

pub chunks_made-requires-then-reads_nothing-2 : goal.chunks_made-requires-then-reads_nothing-2
chunks_made-requires-then-reads_nothing-2 g c =
    let r = c.type_bounds.sync-R in
    let i = c.in-Insert in
    let e : c.args.change.now ≡ Insert i.name i.schema i.plan = cc in
    let typed = subst (IsTypedFor c.args.names.now) e c.requires.typed in (
      search sendable depth 20,
      λ target of. subst (λ change. CanBeMade change target) (sym e)
          (insert_can_be_made c.args.names.now i.name i.schema i.plan target c.requires.stored typed (c.reads_nothing-in-Insert.ensures c.if-reads_nothing-2.true) of),
    )

pub chunks_made-requires-after_bounds : goal.chunks_made-requires-after_bounds
chunks_made-requires-after_bounds g c κs within =
    let s = c.in-Store in
    let e : c.args.change.now ≡ Store s.name s.schema s.plan = s.is in
    let typed = subst (IsTypedFor c.args.names.now) e c.requires.typed in
    λ target of. subst (λ change. CanBeMade change target) (sym e)
    (store_can_be_made c.args.names.now s.name s.schema s.plan target typed (c.reads_nothing.ensures c.if-reads_nothing.true))
