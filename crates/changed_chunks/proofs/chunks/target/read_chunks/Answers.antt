use Rattle.std.proofs.Common.{◌+◌, ◌∙◌, ◌++◌, List, sym, subst, ℕ, map, ap, refl}
use Rattle.std.proofs.lemmas.List.{take_all}
use Rattle.std.specs.List.{AllZip}
use Rattle.arrayvec.specs.ArrayVec.{ArrayVec}
use Rattle.array_geom.specs.declared.chunk.Chunk.{Chunk}
use Rattle.chunk_source.proofs.ReadLemmas.{HasRead, front_at, front_of, on_err, read_more, keeps_on, next_listed, nothing_read, reads_still}
use Rattle.chunk_source.specs.Source.{IsStored, asks}
use Rattle.changed_chunks.proofs.chunks.target.read_chunks.Goals as goal

pub loop-at-preserved : goal.loop-at-preserved
loop-at-preserved g c =
    let first = g.S.ChunkSource.state c.args.source.now in
    let now = g.S.ChunkSource.state c.chunk.new.self in
    let read = read_more first (g.S.ChunkSource.state c.loop-at.source) now c.args.number c.args.leaf.now c.args.chunks.now c.loop-at.at-index c.loop-at.read c.at-item.result c.in_ok-chunk.field-0 c.loop-at.invariant.0
    c.loop-at-test.true c.at-item.is c.in_ok-chunk.ensures.stored c.in_ok-chunk.ensures.told c.in_ok-chunk.ensures.asked c.in_ok-chunk.ensures.kept c.in_ok-chunk.ensures.cause in
    (subst (λ (z : List Chunk). HasRead first now c.args.number c.args.leaf.now c.args.chunks.now (c.loop-at.at-index + 1) z) (sym c.in_ok-push.ensures.ok) read, c.in_ok-chunk.ensures.start ∙ c.loop-at.invariant.1)

pub returns-in_err-chunk-clause-front : goal.returns-in_err-chunk-clause-front
returns-in_err-chunk-clause-front g c =
    on_err _ _ (front_at (g.S.ChunkSource.state c.args.source.now) (g.S.ChunkSource.state c.loop-at.source) (g.S.ChunkSource.state c.chunk.new.self) c.args.number c.args.chunks.now c.loop-at.at-index c.at-item.result
    c.loop-at-test.true c.at-item.is c.loop-at.invariant.0.asked c.in_err-chunk.ensures.asked)

pub returns-in_err-push-clause-front : goal.returns-in_err-push-clause-front
returns-in_err-push-clause-front g c =
    let first = g.S.ChunkSource.state c.args.source.now in
    let now = g.S.ChunkSource.state c.chunk.new.self in
    let read = read_more first (g.S.ChunkSource.state c.loop-at.source) now c.args.number c.args.leaf.now c.args.chunks.now c.loop-at.at-index c.loop-at.read c.at-item.result c.in_ok-chunk.field-0 c.loop-at.invariant.0
    c.loop-at-test.true c.at-item.is c.in_ok-chunk.ensures.stored c.in_ok-chunk.ensures.told c.in_ok-chunk.ensures.asked c.in_ok-chunk.ensures.kept c.in_ok-chunk.ensures.cause in
    on_err _ _ (front_of first now c.args.number c.args.leaf.now c.args.chunks.now (c.loop-at.at-index + 1) _ read)

pub returns-in_err-push-clause-start : goal.returns-in_err-push-clause-start
returns-in_err-push-clause-start g c = c.in_ok-chunk.ensures.start ∙ c.loop-at.invariant.1

pub returns-clause-asked : goal.returns-clause-asked
returns-clause-asked g c =
    let first = g.S.ChunkSource.state c.args.source.now in
    c.loop-at.invariant.0.asked ∙ ap (λ (all : List (ArrayVec ℕ)). first.asked ++ map (asks c.args.number) all) (take_all c.loop-at.at-index c.args.chunks.now c.loop-at-test.false)

pub returns-in_err-push-clause-kept : goal.returns-in_err-push-clause-kept
returns-in_err-push-clause-kept g c = keeps_on (g.S.ChunkSource.state c.args.source.now) (g.S.ChunkSource.state c.loop-at.source) (g.S.ChunkSource.state c.chunk.new.self) c.loop-at.invariant.0.kept c.in_ok-chunk.ensures.kept

pub chunk-requires-clause-listed : goal.chunk-requires-clause-listed
chunk-requires-clause-listed g c = next_listed (g.S.ChunkSource.state c.args.source.now) (g.S.ChunkSource.state c.loop-at.source) c.args.number c.args.leaf.now c.args.chunks.now c.loop-at.at-index c.loop-at.read c.at-item.result c.loop-at.invariant.0 c.loop-at-test.true c.at-item.is

pub returns-in_err-chunk-clause-start : goal.returns-in_err-chunk-clause-start
returns-in_err-chunk-clause-start g c = c.in_err-chunk.ensures.start ∙ c.loop-at.invariant.1

pub returns-clause-stored : goal.returns-clause-stored
returns-clause-stored g c =
    subst (λ (all : List (ArrayVec ℕ)). AllZip (IsStored c.args.leaf.now.schema) all c.loop-at.read) (take_all c.loop-at.at-index c.args.chunks.now c.loop-at-test.false) c.loop-at.invariant.0.stored

pub loop-at-init : goal.loop-at-init
loop-at-init g c =
    let first = g.S.ChunkSource.state c.args.source.now in
    (subst (HasRead first first c.args.number c.args.leaf.now c.args.chunks.now 0) (sym c.another-read.ensures) (nothing_read first c.args.number c.args.leaf.now c.args.chunks.now c.requires.listed), refl)

pub returns-in_err-chunk-clause-kept : goal.returns-in_err-chunk-clause-kept
returns-in_err-chunk-clause-kept g c = keeps_on (g.S.ChunkSource.state c.args.source.now) (g.S.ChunkSource.state c.loop-at.source) (g.S.ChunkSource.state c.chunk.new.self) c.loop-at.invariant.0.kept c.in_err-chunk.ensures.kept

pub chunk-requires-clause-reads : goal.chunk-requires-clause-reads
chunk-requires-clause-reads g c = reads_still (g.S.ChunkSource.state c.args.source.now) (g.S.ChunkSource.state c.loop-at.source) c.args.leaf.now c.loop-at.invariant.0.kept c.requires.reads
