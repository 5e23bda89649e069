use Rattle.std.proofs.Common.{List, refl, sym, ap, ◌∙◌, subst, length}
use Rattle.array_geom.specs.declared.chunk.Chunk.{Chunk}
use Rattle.cell_values.specs.declared.schema.Dimension.{Dimension}
use Rattle.array_parts.specs.Cores.{cores_of}
use Rattle.group_rows.proofs.WholeLaws.{of_cores}
use Rattle.chunk_cells.specs.Whole.{CoresRise}
use Rattle.chunk_cells.proofs.MergeLaws.{if_ok}
use Rattle.window_overlap.specs.Inner.Reached.{reached}
use Rattle.window_overlap.proofs.ArraysWindowLaws.{can_aggregate, low_rows, short_windows}
use Rattle.window_overlap.proofs.ChunksWindowLaws.{can_within, rising_within}
use Rattle.area_cells.proofs.PieceLaws.{rise_in_cores}
use Rattle.window_overlap.proofs.PieceLaws.{each_reach, frame_windows, low_within, rows_there}
use Rattle.window_overlap.proofs.arrays.pieces.windows_in.Goals as goal

pub rows_in_area-requires-clause-cores : goal.rows_in_area-requires-clause-cores
rows_in_area-requires-clause-cores c = subst (λ (cs : List Chunk). CoresRise c.args.array.now.schema.dimensions c.args.array.now.margins.items cs) (sym c.as_slice.ensures) (rise_in_cores c.args.array.now.schema c.args.array.now.margins.items c.args.array.now.chunks c.requires.cells)

pub windows_inside-requires-clause-rising : goal.windows_inside-requires-clause-rising
windows_inside-requires-clause-rising c =
    let all = cores_of c.args.array.now in
    let there = rows_there c.args.reach.now c.args.area.now c.args.array.now.schema.dimensions c.args.array.now.margins.items c.as_slice.result.now c.args.array.now.chunks c.in_ok-rows.rows c.reach_of-reached.result c.as_slice.ensures c.reach_of-reached.ensures c.in_ok-rows.ensures in
    rising_within (reached c.args.reach.now c.args.area.now) all c.in_ok-rows.rows there (of_cores c.args.array.now all refl c.requires.cells).are_rows.rising

pub windows_inside-requires-clause-low : goal.windows_inside-requires-clause-low
windows_inside-requires-clause-low c =
    let all = cores_of c.args.array.now in
    let there = rows_there c.args.reach.now c.args.area.now c.args.array.now.schema.dimensions c.args.array.now.margins.items c.as_slice.result.now c.args.array.now.chunks c.in_ok-rows.rows c.reach_of-reached.result c.as_slice.ensures c.reach_of-reached.ensures c.in_ok-rows.ensures in
    low_within (reached c.args.reach.now c.args.area.now) all c.in_ok-rows.rows there (low_rows c.args.array.now.schema all (of_cores c.args.array.now all refl c.requires.cells))

pub windows_inside-requires-clause-short : goal.windows_inside-requires-clause-short
windows_inside-requires-clause-short c = short_windows c.args.array.now.schema c.args.reach.now c.requires.reach

pub windows_inside-requires-clause-typed : goal.windows_inside-requires-clause-typed
windows_inside-requires-clause-typed c =
    let all = cores_of c.args.array.now in
    let there = rows_there c.args.reach.now c.args.area.now c.args.array.now.schema.dimensions c.args.array.now.margins.items c.as_slice.result.now c.args.array.now.chunks c.in_ok-rows.rows c.reach_of-reached.result c.as_slice.ensures c.reach_of-reached.ensures c.in_ok-rows.ensures in
    can_within (reached c.args.reach.now c.args.area.now) c.args.aggs.now all c.in_ok-rows.rows there (can_aggregate c.args.array.now.schema c.args.aggs.now all (of_cores c.args.array.now all refl c.requires.cells) c.requires.typed)

pub returns : goal.returns
returns c =
    let all = cores_of c.args.array.now in
    let there = rows_there c.args.reach.now c.args.area.now c.args.array.now.schema.dimensions c.args.array.now.margins.items c.as_slice.result.now c.args.array.now.chunks c.in_ok-rows.rows c.reach_of-reached.result c.as_slice.ensures c.reach_of-reached.ensures c.in_ok-rows.ensures in
    if_ok c.windows_inside.result c.windows_inside.ensures
    (λ made m. frame_windows c.args.target.now c.args.margins.now.items c.args.number.now.items c.args.area.now c.args.reach.now c.args.aggs.now all c.in_ok-rows.rows made c.requires.framed c.requires.area (short_windows c.args.array.now.schema c.args.reach.now c.requires.reach)
    (each_reach c.args.array.now.schema c.args.reach.now c.requires.reach ∙ sym (ap (λ (ds : List Dimension). length ds) c.requires.same)) there m)
