use Rattle.std.proofs.Common.{List, ℕ}
use Rattle.group_rows.proofs.WholeLaws.{if_ok}
use Rattle.order_exec.proofs.RankedChunkLaws.{groups_in_frame, if_some, places_inside}
use Rattle.order_exec.proofs.ranked_chunks.places_in_chunk.Goals as goal

pub places_of_groups-requires-clause-inside : goal.places_of_groups-requires-clause-inside
places_of_groups-requires-clause-inside c =
    places_inside c.args.ranking.now.schema.now.dimensions c.args.ranking.now.margins.now.items c.args.chunk.now c.grid_of-grid.result c.as_slice.result.now c.grid_of-grid.ensures.lengths c.as_slice.ensures c.requires.places.placed

pub returns : goal.returns
returns c =
    if_ok c.places_of_groups.result c.places_of_groups.ensures (λ found h. if_some found h (λ places have.
    groups_in_frame c.args.ranking.now.to.now.dims.now c.args.ranking.now.to.now.grid.now c.args.ranking.now.schema.now.dimensions c.args.ranking.now.margins.now.items c.args.chunk.now c.grid_of-grid.result c.as_slice.result.now places
    c.grid_of-grid.ensures.low c.grid_of-grid.ensures.lengths c.as_slice.ensures have))
