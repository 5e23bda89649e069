use Rattle.std.proofs.Common.{◌≡◌, List, take, sym, subst}
use Rattle.std.proofs.lemmas.List.{take_all}
use Rattle.cell_values.specs.declared.datum.Row.{Row}
use Rattle.array_geom.specs.declared.chunk.Chunk.{Chunk}
use Rattle.array_parts.specs.Placed.{HasPlaces}
use Rattle.order_exec.specs.Inner.RankedChunks.{HoldNumbers, rows_of_chunks}
use Rattle.order_exec.proofs.KeyedLaws.{at_place}
use Rattle.order_exec.proofs.RankedChunkLaws.{next_rows, none_held}
use Rattle.order_exec.proofs.ranked_chunks.numbers_of_groups.Goals as goal

pub loop-k-init : goal.loop-k-init
loop-k-init c =
    none_held c.args.ranking.now.attribute c.args.ranking.now.to.now.dims.now c.args.ranking.now.to.now.grid.now c.in_ok-groups.groups.items _ c.in_ok-groups.ensures c.volume.ensures

pub take_chunk-requires-clause-places : goal.take_chunk-requires-clause-places
take_chunk-requires-clause-places c =
    at_place (HasPlaces c.args.ranking.now.schema.now c.args.ranking.now.margins.now.items) c.args.chunks.now c.loop-k.k c.index-chunks-k.result c.requires.places c.loop-k-test.true c.index-chunks-k.is

pub loop-k-preserved : goal.loop-k-preserved
loop-k-preserved c =
    let ranking = c.args.ranking.now in
    subst (λ (rows : List Row). HoldNumbers ranking.attribute ranking.to.now.dims.now ranking.to.now.grid.now rows c.take_chunk.new.groups.items)
    (sym (next_rows ranking.schema.now.dimensions ranking.margins.now.items c.args.chunks.now c.loop-k.k c.index-chunks-k.result c.loop-k-test.true c.index-chunks-k.is))
    (c.in_ok-take_chunk.ensures c.if-not-branch.false (rows_of_chunks ranking.schema.now.dimensions ranking.margins.now.items (take c.loop-k.k c.args.chunks.now)) c.loop-k.invariant)

pub returns : goal.returns
returns c =
    let ranking = c.args.ranking.now in
    subst (λ (chunks : List Chunk). HoldNumbers ranking.attribute ranking.to.now.dims.now ranking.to.now.grid.now (rows_of_chunks ranking.schema.now.dimensions ranking.margins.now.items chunks) c.from_vec.result)
    (take_all c.loop-k.k c.args.chunks.now c.loop-k-test.false)
    (subst (HoldNumbers ranking.attribute ranking.to.now.dims.now ranking.to.now.grid.now (rows_of_chunks ranking.schema.now.dimensions ranking.margins.now.items (take c.loop-k.k c.args.chunks.now))) (sym c.from_vec.ensures) c.loop-k.invariant)
