use Rattle.std.proofs.Common.{ℕ, List, sym, subst, length}
use Rattle.std.specs.Prelude.{IfSome, Option}
use Rattle.order_exec.specs.Inner.GroupPlaces.{HaveGroups}
use Rattle.order_exec.specs.Inner.RankedChunks.{frame_grid}
use Rattle.order_exec.proofs.GroupPlaceLaws.{groups_below}
use Rattle.order_exec.proofs.RankedChunkLaws.{as_many_numbers, chunk_taken}
use Rattle.order_exec.proofs.ranked_chunks.take_chunk.Goals as goal

pub take_numbers-requires-clause-below : goal.take_numbers-requires-clause-below
take_numbers-requires-clause-below c =
    let dims = c.args.ranking.now.to.now.dims.now in
    let grid = c.args.ranking.now.to.now.grid.now in
    let frame = frame_grid c.args.ranking.now.schema.now.dimensions c.args.ranking.now.margins.now.items c.args.chunk.now in
    let have : HaveGroups dims grid frame c.args.chunk.now.positions c.as_slice.result.now =
    subst (HaveGroups dims grid frame c.args.chunk.now.positions) (sym c.as_slice.ensures) (subst (λ (o : Option (List ℕ)). IfSome o (HaveGroups dims grid frame c.args.chunk.now.positions)) c.in-Some-2.is c.in_ok-places.ensures) in
    groups_below dims grid frame c.args.chunk.now.positions c.as_slice.result.now (length c.args.groups.now.items) c.requires.long have

pub take_numbers-requires-clause-each : goal.take_numbers-requires-clause-each
take_numbers-requires-clause-each c =
    let x = c.args.ranking.now.attribute in
    let dims = c.args.ranking.now.to.now.dims.now in
    let grid = c.args.ranking.now.to.now.grid.now in
    let sides = c.args.ranking.now.schema.now.dimensions in
    let margins = c.args.ranking.now.margins.now.items in
    let have = subst (HaveGroups dims grid (frame_grid sides margins c.args.chunk.now) c.args.chunk.now.positions) (sym c.as_slice.ensures)
    (subst (λ (o : Option (List ℕ)). IfSome o (HaveGroups dims grid (frame_grid sides margins c.args.chunk.now) c.args.chunk.now.positions)) c.in-Some-2.is c.in_ok-places.ensures) in
    as_many_numbers x dims grid sides margins c.args.chunk.now c.as_slice.result.now c.in-Some.numbers.now c.requires.places.placed (record { have = have; values = c.in-Some.ensures })

pub returns : goal.returns
returns c = λ yes earlier held.
    let x = c.args.ranking.now.attribute in
    let dims = c.args.ranking.now.to.now.dims.now in
    let grid = c.args.ranking.now.to.now.grid.now in
    let sides = c.args.ranking.now.schema.now.dimensions in
    let margins = c.args.ranking.now.margins.now.items in
    let have = subst (HaveGroups dims grid (frame_grid sides margins c.args.chunk.now) c.args.chunk.now.positions) (sym c.as_slice.ensures)
    (subst (λ (o : Option (List ℕ)). IfSome o (HaveGroups dims grid (frame_grid sides margins c.args.chunk.now) c.args.chunk.now.positions)) c.in-Some-2.is c.in_ok-places.ensures) in
    chunk_taken x dims grid sides margins c.args.chunk.now c.as_slice.result.now c.in-Some.numbers.now earlier c.args.groups.now.items c.take_numbers.new.groups.items c.requires.to.grid_is c.requires.places.placed
    (record { have = have; values = c.in-Some.ensures }) c.in_ok-take_numbers.ensures held
