use Rattle.std.proofs.Common.{ℕ, List, sym, subst, ◌∙◌, ap, length}
use Rattle.std.specs.Prelude.{IfSome, Option}
use Rattle.array_rows.specs.Boxes.{by_pairs}
use Rattle.order_exec.specs.Inner.GroupPlaces.{HaveGroups}
use Rattle.order_exec.specs.Inner.RankedChunks.{frame_grid, ranked_number}
use Rattle.order_exec.proofs.GroupNumberLaws.{as_many_ranks}
use Rattle.order_exec.proofs.GroupPlaceLaws.{groups_below}
use Rattle.order_exec.proofs.RankedChunkLaws.{as_many_numbers}
use Rattle.order_exec.proofs.ranked_chunks.ranked_chunk.Goals as goal

pub ranks_of-requires-clause-below : goal.ranks_of-requires-clause-below
ranks_of-requires-clause-below c =
    let dims = c.args.ranking.now.to.now.dims.now in
    let grid = c.args.ranking.now.to.now.grid.now in
    let frame = frame_grid c.args.ranking.now.schema.now.dimensions c.args.ranking.now.margins.now.items c.args.chunk.now in
    let have : HaveGroups dims grid frame c.args.chunk.now.positions c.as_slice.result.now =
    subst (HaveGroups dims grid frame c.args.chunk.now.positions) (sym c.as_slice.ensures) (subst (λ (o : Option (List ℕ)). IfSome o (HaveGroups dims grid frame c.args.chunk.now.positions)) c.in-Some-2.is c.in_ok-places.ensures) in
    groups_below dims grid frame c.args.chunk.now.positions c.as_slice.result.now (length c.args.groups.now) c.requires.long have

pub ranks_of-requires-clause-each : goal.ranks_of-requires-clause-each
ranks_of-requires-clause-each c =
    let x = c.args.ranking.now.attribute in
    let dims = c.args.ranking.now.to.now.dims.now in
    let grid = c.args.ranking.now.to.now.grid.now in
    let sides = c.args.ranking.now.schema.now.dimensions in
    let margins = c.args.ranking.now.margins.now.items in
    let have = subst (HaveGroups dims grid (frame_grid sides margins c.args.chunk.now) c.args.chunk.now.positions) (sym c.as_slice.ensures)
    (subst (λ (o : Option (List ℕ)). IfSome o (HaveGroups dims grid (frame_grid sides margins c.args.chunk.now) c.args.chunk.now.positions)) c.in-Some-2.is c.in_ok-places.ensures) in
    as_many_numbers x dims grid sides margins c.args.chunk.now c.as_slice.result.now c.in-Some.numbers.now c.requires.places.placed (record { have = have; values = c.in-Some.ensures })

pub ranked_cells-requires : goal.ranked_cells-requires
ranked_cells-requires c =
    let x = c.args.ranking.now.attribute in
    let dims = c.args.ranking.now.to.now.dims.now in
    let grid = c.args.ranking.now.to.now.grid.now in
    let sides = c.args.ranking.now.schema.now.dimensions in
    let margins = c.args.ranking.now.margins.now.items in
    let have = subst (HaveGroups dims grid (frame_grid sides margins c.args.chunk.now) c.args.chunk.now.positions) (sym c.as_slice.ensures)
    (subst (λ (o : Option (List ℕ)). IfSome o (HaveGroups dims grid (frame_grid sides margins c.args.chunk.now) c.args.chunk.now.positions)) c.in-Some-2.is c.in_ok-places.ensures) in
    ap length c.in_ok-ranks.ensures
    ∙ as_many_ranks c.args.groups.now c.as_slice.result.now c.in-Some.numbers.now
    (as_many_numbers x dims grid sides margins c.args.chunk.now c.as_slice.result.now c.in-Some.numbers.now c.requires.places.placed (record { have = have; values = c.in-Some.ensures }))

pub returns : goal.returns
returns c =
    let dims = c.args.ranking.now.to.now.dims.now in
    let grid = c.args.ranking.now.to.now.grid.now in
    let sides = c.args.ranking.now.schema.now.dimensions in
    let margins = c.args.ranking.now.margins.now.items in
    let have = subst (HaveGroups dims grid (frame_grid sides margins c.args.chunk.now) c.args.chunk.now.positions) (sym c.as_slice.ensures)
    (subst (λ (o : Option (List ℕ)). IfSome o (HaveGroups dims grid (frame_grid sides margins c.args.chunk.now) c.args.chunk.now.positions)) c.in-Some-2.is c.in_ok-places.ensures) in
    record {
      at = c.copy_numbers.ensures;
      positions = c.in_ok-from_slice.ensures ∙ c.as_slice-2.ensures;
      places = c.as_slice.result.now;
      numbers = c.in-Some.numbers.now;
      taken = record { have = have; values = c.in-Some.ensures };
      cells = c.in_ok-cells.ensures ∙ ap (by_pairs ranked_number c.in-Some.numbers.now) c.in_ok-ranks.ensures;
    }
