use Rattle.std.proofs.Common.{List, subst}
use Rattle.std.specs.Prelude.{IfSome, Option}
use Rattle.std.specs.List.{AllZip}
use Rattle.std.proofs.lemmas.List.{take_all}
use Rattle.array_geom.specs.declared.chunk.Chunk.{Chunk}
use Rattle.array_parts.specs.Placed.{HasPlaces}
use Rattle.order_exec.specs.Inner.RankedChunks.{IsRanked}
use Rattle.order_exec.proofs.KeyedLaws.{at_place}
use Rattle.order_exec.proofs.RankedChunkLaws.{next_ranked}
use Rattle.order_exec.proofs.ranked_chunks.ranked_chunks.Goals as goal

pub ranked_chunk-requires-clause-places : goal.ranked_chunk-requires-clause-places
ranked_chunk-requires-clause-places c =
    at_place (HasPlaces c.args.ranking.now.schema.now c.args.ranking.now.margins.now.items) c.args.chunks.now c.loop-k.k c.index-chunks-k.result c.requires.places c.loop-k-test.true c.index-chunks-k.is

pub loop-k-preserved : goal.loop-k-preserved
loop-k-preserved c =
    let ranking = c.args.ranking.now in
    let R = IsRanked ranking.attribute ranking.to.now.dims.now ranking.to.now.grid.now ranking.schema.now.dimensions ranking.margins.now.items c.args.groups.now in
    next_ranked R c.args.chunks.now c.loop-k.k c.index-chunks-k.result c.loop-k.made c.push.new.self c.in-Some.ranked c.loop-k-test.true c.index-chunks-k.is c.loop-k.invariant
    (subst (λ (o : Option Chunk). IfSome o (R c.index-chunks-k.result)) c.in-Some.is c.in_ok-ranked.ensures) c.in_ok-push-in-Some.ensures.ok

pub returns : goal.returns
returns c =
    let ranking = c.args.ranking.now in
    let R = IsRanked ranking.attribute ranking.to.now.dims.now ranking.to.now.grid.now ranking.schema.now.dimensions ranking.margins.now.items c.args.groups.now in
    subst (λ (chunks : List Chunk). AllZip R chunks c.loop-k.made) (take_all c.loop-k.k c.args.chunks.now c.loop-k-test.false) c.loop-k.invariant
