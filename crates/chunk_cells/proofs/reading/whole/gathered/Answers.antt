use Rattle.std.proofs.Common.{◌≡◌, List, length, ap, sym, ◌∙◌, subst}
use Rattle.std.specs.List.{AllByRecursion}
use Rattle.std.specs.Vec.Iter.{into_iter_items}
use Rattle.array_geom.specs.declared.chunk.Chunk.{Chunk}
use Rattle.array_parts.specs.Placed.{HasPlaces}
use Rattle.chunk_cells.specs.Whole.{CoresRise}
use Rattle.chunk_cells.proofs.MergeLaws.{if_ok}
use Rattle.chunk_cells.proofs.WholeLaws.{all_cores}
use Rattle.chunk_cells.proofs.reading.whole.gathered.Goals as goal

pub gather-requires-clause-places : goal.gather-requires-clause-places
gather-requires-clause-places c = subst (AllByRecursion (HasPlaces c.args.array.schema c.args.array.margins.items)) (sym (c.into_iter-chunks.ensures.rest ∙ c.into_vec.ensures)) c.requires

pub returns : goal.returns
returns c = λ rise.
    let chunks = into_iter_items c.into_iter-chunks.result in
    let same : chunks ≡ c.args.array.chunks = c.into_iter-chunks.ensures.rest ∙ c.into_vec.ensures in
    if_ok c.gather.result (c.gather.ensures.rows (subst (λ (z : List Chunk). CoresRise c.args.array.schema.dimensions c.args.array.margins.items z) (sym same) rise))
    (λ rows e. all_cores c.args.array chunks (length c.as_slice.result.now) rows same (ap length c.as_slice.ensures ∙ c.in_ok-first.ensures) e)
