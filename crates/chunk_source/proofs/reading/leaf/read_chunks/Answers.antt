use Rattle.std.proofs.Common.{ℕ, ◌+◌, ◌++◌, List, map, sym, ap, ◌∙◌, subst}
use Rattle.std.specs.List.{AllZip}
use Rattle.std.proofs.lemmas.List.{take_all}
use Rattle.arrayvec.specs.ArrayVec.{ArrayVec}
use Rattle.array_geom.specs.declared.chunk.Chunk.{Chunk}
use Rattle.chunk_source.specs.Source.{IsStored, asks}
use Rattle.chunk_source.proofs.ReadLemmas.{HasRead, front_at, front_of, next_listed, on_err, read_more}
use Rattle.chunk_source.proofs.reading.leaf.read_chunks.Goals as goal

pub loop-at-preserved : goal.loop-at-preserved
loop-at-preserved g c =
    let first = g.S.ChunkSource.state c.args.source.now in
    let now = g.S.ChunkSource.state c.chunk.new.self in
    let read = read_more first (g.S.ChunkSource.state c.loop-at.source) now c.args.number c.args.leaf.now c.args.chunks.now c.loop-at.at-index c.loop-at.read c.at-item.result c.in_ok-chunk.field-0 c.loop-at.invariant.0
    c.loop-at-test.true c.at-item.is c.in_ok-chunk.ensures.stored c.in_ok-chunk.ensures.told c.in_ok-chunk.ensures.asked c.in_ok-chunk.ensures.kept c.in_ok-chunk.ensures.cause in
    (subst (λ (z : List Chunk). HasRead first now c.args.number c.args.leaf.now c.args.chunks.now (c.loop-at.at-index + 1) z) (sym c.in_ok-push.ensures.ok) read, c.in_ok-chunk.ensures.start ∙ c.loop-at.invariant.1)

pub returns-in_err-chunk-clause-front : goal.returns-in_err-chunk-clause-front
returns-in_err-chunk-clause-front g c =
    on_err _ _ (front_at (g.S.ChunkSource.state c.args.source.now) (g.S.ChunkSource.state c.loop-at.source) (g.S.ChunkSource.state c.chunk.new.self) c.args.number c.args.chunks.now c.loop-at.at-index c.at-item.result
    c.loop-at-test.true c.at-item.is c.loop-at.invariant.0.asked c.in_err-chunk.ensures.asked)

pub returns-in_err-push-clause-front : goal.returns-in_err-push-clause-front
returns-in_err-push-clause-front g c =
    let first = g.S.ChunkSource.state c.args.source.now in
    let now = g.S.ChunkSource.state c.chunk.new.self in
    let read = read_more first (g.S.ChunkSource.state c.loop-at.source) now c.args.number c.args.leaf.now c.args.chunks.now c.loop-at.at-index c.loop-at.read c.at-item.result c.in_ok-chunk.field-0 c.loop-at.invariant.0
    c.loop-at-test.true c.at-item.is c.in_ok-chunk.ensures.stored c.in_ok-chunk.ensures.told c.in_ok-chunk.ensures.asked c.in_ok-chunk.ensures.kept c.in_ok-chunk.ensures.cause in
    on_err _ _ (front_of first now c.args.number c.args.leaf.now c.args.chunks.now (c.loop-at.at-index + 1) _ read)

pub chunk-requires-clause-listed : goal.chunk-requires-clause-listed
chunk-requires-clause-listed g c =
    next_listed (g.S.ChunkSource.state c.args.source.now) (g.S.ChunkSource.state c.loop-at.source) c.args.number c.args.leaf.now c.args.chunks.now
    c.loop-at.at-index c.loop-at.read c.at-item.result c.loop-at.invariant.0 c.loop-at-test.true c.at-item.is

pub returns-clause-asked : goal.returns-clause-asked
returns-clause-asked g c =
    let before = (g.S.ChunkSource.state c.args.source.now).asked in
    c.loop-at.invariant.0.asked
    ∙ ap (λ (ks : List (ArrayVec ℕ)). before ++ map (asks c.args.number) ks) (take_all c.loop-at.at-index c.args.chunks.now c.loop-at-test.false)

pub returns-clause-stored : goal.returns-clause-stored
returns-clause-stored g c =
    subst (λ (ks : List (ArrayVec ℕ)). AllZip (IsStored c.args.leaf.now.schema) ks c.loop-at.read)
    (take_all c.loop-at.at-index c.args.chunks.now c.loop-at-test.false) c.loop-at.invariant.0.stored
