use Rattle.std.proofs.Common.{List, sym, ap, ◌∙◌, subst}
use Rattle.cell_values.specs.declared.schema.Bounds.{Bounds}
use Rattle.array_rows.specs.Boxes.{corners, within}
use Rattle.array_geom.specs.declared.chunk.Chunk.{Chunk}
use Rattle.array_geom.specs.Link.{core_rows}
use Rattle.chunk_cells.specs.Whole.{CoresRise}
use Rattle.chunk_cells.proofs.MergeLaws.{if_ok}
use Rattle.exec_join.proofs.ArraysCrossLaws.{cross_room, few_pairs}
use Rattle.exec_join.proofs.CrossPieceLaws.{crossed_there, left_count, rows_within}
use Rattle.exec_join.proofs.MadeLaws.{rise_in_cores}
use Rattle.exec_join.proofs.arrays.cross_pieces.crossed_in.Goals as goal

pub left_box-of_left-requires-clause-low : goal.left_box-of_left-requires-clause-low
left_box-of_left-requires-clause-low c =
    left_count c.args.pairs.now c.args.left.now.schema c.args.right.now.schema c.args.schema.now _ _ c.requires.schema c.len-count.ensures c.requires.low

pub left_box-of_left-requires-clause-high : goal.left_box-of_left-requires-clause-high
left_box-of_left-requires-clause-high c =
    left_count c.args.pairs.now c.args.left.now.schema c.args.right.now.schema c.args.schema.now _ _ c.requires.schema c.len-count.ensures c.requires.high

pub right_corner-requires-clause-count : goal.right_corner-requires-clause-count
right_corner-requires-clause-count c =
    left_count c.args.pairs.now c.args.left.now.schema c.args.right.now.schema c.args.schema.now _ _ c.requires.schema c.len-count.ensures c.requires.low

pub right_corner-requires-2-clause-count : goal.right_corner-requires-2-clause-count
right_corner-requires-2-clause-count c =
    left_count c.args.pairs.now c.args.left.now.schema c.args.right.now.schema c.args.schema.now _ _ c.requires.schema c.len-count.ensures c.requires.high

pub rows_in_area-requires-clause-cores : goal.rows_in_area-requires-clause-cores
rows_in_area-requires-clause-cores c =
    subst (λ (cs : List Chunk). CoresRise c.args.left.now.schema.dimensions c.args.left.now.margins.items cs) (sym c.as_slice.ensures) (rise_in_cores c.args.left.now.schema c.args.left.now.margins.items c.args.left.now.chunks c.requires.left_cells)

pub rows_in_area-requires-2-clause-cores : goal.rows_in_area-requires-2-clause-cores
rows_in_area-requires-2-clause-cores c =
    subst (λ (cs : List Chunk). CoresRise c.args.right.now.schema.dimensions c.args.right.now.margins.items cs) (sym c.as_slice-2.ensures) (rise_in_cores c.args.right.now.schema c.args.right.now.margins.items c.args.right.now.chunks c.requires.right_cells)

pub cross_of_rows-requires-clause-few : goal.cross_of_rows-requires-clause-few
cross_of_rows-requires-clause-few c = few_pairs c.args.pairs.now c.args.left.now.schema c.args.right.now.schema c.requires.left_cells.placed.valid c.requires.pairs

pub cross_of_rows-requires-clause-room : goal.cross_of_rows-requires-clause-room
cross_of_rows-requires-clause-room c =
    let left = c.args.left.now in
    let right = c.args.right.now in
    let box : Bounds = record { lo = c.right_corner.result; hi = c.right_corner-2.result } in
    cross_room c.args.pairs.now left.schema right.schema c.args.schema.now c.in_ok-from_left.from_left c.in_ok-from_right.from_right
    (rows_within left c.left_box-of_left.result c.in_ok-from_left.from_left c.requires.left_cells (c.in_ok-from_left.ensures ∙ ap (λ (cs : List Chunk). within c.left_box-of_left.result (core_rows left.schema.dimensions left.margins.items cs)) c.as_slice.ensures))
    (rows_within right box c.in_ok-from_right.from_right c.requires.right_cells (c.in_ok-from_right.ensures ∙ ap (λ (cs : List Chunk). within box (core_rows right.schema.dimensions right.margins.items cs)) c.as_slice-2.ensures))
    c.requires.schema c.requires.valid

pub returns : goal.returns
returns c =
    let left = c.args.left.now in
    let right = c.args.right.now in
    if_ok c.cross_of_rows.result c.cross_of_rows.ensures
    (λ rows m. crossed_there left right c.args.pairs.now c.args.schema.now c.args.area.now c.left_box-of_left.result (record { lo = c.right_corner.result; hi = c.right_corner-2.result }) c.len-count.result c.in_ok-from_left.from_left c.in_ok-from_right.from_right rows
    c.requires.left_cells c.requires.right_cells c.requires.schema c.requires.low c.requires.high c.len-count.ensures c.left_box-of_left.ensures
    (λ i. corners (c.right_corner.ensures i) (c.right_corner-2.ensures i))
    (c.in_ok-from_left.ensures ∙ ap (λ (cs : List Chunk). within c.left_box-of_left.result (core_rows left.schema.dimensions left.margins.items cs)) c.as_slice.ensures)
    (c.in_ok-from_right.ensures ∙ ap (λ (cs : List Chunk). within (record { lo = c.right_corner.result; hi = c.right_corner-2.result }) (core_rows right.schema.dimensions right.margins.items cs)) c.as_slice-2.ensures)
    m)
