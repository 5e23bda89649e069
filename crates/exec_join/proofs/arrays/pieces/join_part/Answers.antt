use Rattle.std.proofs.Common.{List, refl, ap, ◌∙◌}
use Rattle.array_rows.specs.Boxes.{within}
use Rattle.array_geom.specs.declared.chunk.Chunk.{Chunk}
use Rattle.array_geom.specs.Link.{core_rows}
use Rattle.array_parts.specs.Cores.{cores_of}
use Rattle.logical_plan.specs.Joins.{join_rows}
use Rattle.area_cells.specs.Found.{found_rows}
use Rattle.area_cells.proofs.FillLaws.{filled_chunk, filled_placed}
use Rattle.area_cells.proofs.PieceLaws.{has_places, is_part}
use Rattle.exec_join.proofs.MeetLaws.{held_by, rows_rise}
use Rattle.exec_join.proofs.PieceLaws.{joined_there, rising_in}
use Rattle.exec_join.proofs.arrays.pieces.join_part.Goals as goal

pub found_in-requires-clause-rows : goal.found_in-requires-clause-rows
found_in-requires-clause-rows c = rows_rise c.args.left.now.schema c.args.left.now.margins.items c.args.left.now.chunks c.as_slice.result.now c.as_slice.ensures c.requires.left_cells

pub found_in-requires-clause-held : goal.found_in-requires-clause-held
found_in-requires-clause-held c = held_by c.args.schema.now c.args.margins.now.items c.args.number.now.items c.grid_of-grid.result c.frame-area.result c.requires.framed c.grid_of-grid.ensures.low c.grid_of-grid.ensures.lengths c.frame-area.ensures

pub found_in-requires-2-clause-rows : goal.found_in-requires-2-clause-rows
found_in-requires-2-clause-rows c = rows_rise c.args.right.now.schema c.args.right.now.margins.items c.args.right.now.chunks c.as_slice-2.result.now c.as_slice-2.ensures c.requires.right_cells

pub found_in-requires-2-clause-held : goal.found_in-requires-2-clause-held
found_in-requires-2-clause-held c = held_by c.args.schema.now c.args.margins.now.items c.args.number.now.items c.grid_of-grid.result c.frame-area.result c.requires.framed c.grid_of-grid.ensures.low c.grid_of-grid.ensures.lengths c.frame-area.ensures

pub meet-requires-clause-left_rise : goal.meet-requires-clause-left_rise
meet-requires-clause-left_rise c =
    rising_in c.args.left.now.schema.dimensions c.args.left.now.margins.items c.frame-area.result c.as_slice.result.now (found_rows c.grid_of-grid.result c.in_ok-from_left.from_left) c.in_ok-from_left.ensures.rows_are

pub meet-requires-clause-right_rise : goal.meet-requires-clause-right_rise
meet-requires-clause-right_rise c =
    rising_in c.args.right.now.schema.dimensions c.args.right.now.margins.items c.frame-area.result c.as_slice-2.result.now (found_rows c.grid_of-grid.result c.in_ok-from_right.from_right) c.in_ok-from_right.ensures.rows_are

pub returns-clause-places : goal.returns-clause-places
returns-clause-places c =
    let rows = join_rows (found_rows c.grid_of-grid.result c.in_ok-from_left.from_left) (found_rows c.grid_of-grid.result c.in_ok-from_right.from_right) in
    has_places c.args.schema.now c.args.margins.now.items c.args.number.now c.in_ok-made.made c.requires.framed c.in_ok-made.ensures.number
    (filled_placed c.args.schema.now.dimensions c.args.margins.now.items c.grid_of-grid.result.low.items c.grid_of-grid.result.lengths.items c.in_ok-made.made rows c.grid_of-grid.ensures.lengths c.in_ok-made.ensures.filled)

pub returns-clause-part : goal.returns-clause-part
returns-clause-part c =
    let grid = c.grid_of-grid.result in
    let from_left = found_rows grid c.in_ok-from_left.from_left in
    let from_right = found_rows grid c.in_ok-from_right.from_right in
    let rows = join_rows from_left from_right in
    let area = c.frame-area.result in
    let left = c.in_ok-from_left.ensures.rows_are ∙ ap (λ (cs : List Chunk). within area (core_rows c.args.left.now.schema.dimensions c.args.left.now.margins.items cs)) c.as_slice.ensures in
    let right = c.in_ok-from_right.ensures.rows_are ∙ ap (λ (cs : List Chunk). within area (core_rows c.args.right.now.schema.dimensions c.args.right.now.margins.items cs)) c.as_slice-2.ensures in
    is_part c.args.schema.now.dimensions c.args.margins.now.items c.args.number.now (join_rows (cores_of c.args.left.now) (cores_of c.args.right.now)) rows area c.in_ok-made.made c.frame-area.ensures
    (joined_there area (cores_of c.args.left.now) (cores_of c.args.right.now) from_left from_right rows left right refl)
    c.in_ok-made.ensures.number
    (filled_placed c.args.schema.now.dimensions c.args.margins.now.items grid.low.items grid.lengths.items c.in_ok-made.made rows c.grid_of-grid.ensures.lengths c.in_ok-made.ensures.filled)
    (filled_chunk c.args.schema.now.dimensions c.args.margins.now.items grid.low.items grid.lengths.items c.args.number.now c.in_ok-made.made rows c.grid_of-grid.ensures.low c.grid_of-grid.ensures.lengths c.in_ok-made.ensures.number c.in_ok-made.ensures.filled)
