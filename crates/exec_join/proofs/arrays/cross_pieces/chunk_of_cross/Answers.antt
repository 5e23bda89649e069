use Rattle.std.proofs.Common.{ap, ◌∙◌}
use Rattle.cell_values.specs.declared.schema.Bounds.{Bounds}
use Rattle.array_rows.specs.Boxes.{within}
use Rattle.array_geom.specs.Geometry.{frame}
use Rattle.array_parts.specs.Cores.{cores_of}
use Rattle.logical_plan.specs.Joins.{cross_rows}
use Rattle.area_cells.proofs.PieceLaws.{all_within}
use Rattle.exec_box.proofs.PieceLaws.{is_part_at}
use Rattle.exec_box.proofs.SpreadLaws.{frame_highs, frame_lows}
use Rattle.exec_join.proofs.arrays.cross_pieces.chunk_of_cross.Goals as goal

pub crossed_in-requires-clause-low : goal.crossed_in-requires-clause-low
crossed_in-requires-clause-low c = frame_lows c.args.schema.now c.args.margins.now.items c.args.number.now.items c.frame-target.result c.requires.framed c.frame-target.ensures

pub crossed_in-requires-clause-high : goal.crossed_in-requires-clause-high
crossed_in-requires-clause-high c = frame_highs c.args.schema.now c.args.margins.now.items c.args.number.now.items c.frame-target.result c.requires.framed c.frame-target.ensures

pub chunk_of_rows-requires-clause-inside : goal.chunk_of_rows-requires-clause-inside
chunk_of_rows-requires-clause-inside c =
    let rows = cross_rows c.args.pairs.now (cores_of c.args.left.now) (cores_of c.args.right.now) in
    all_within (frame c.args.schema.now.dimensions c.args.margins.now.items c.args.number.now.items) rows c.in_ok-rows.rows (c.in_ok-rows.ensures ∙ ap (λ (b : Bounds). within b rows) c.frame-target.ensures)

pub returns : goal.returns
returns c =
    is_part_at c.args.schema.now c.args.margins.now.items c.args.number.now (cross_rows c.args.pairs.now (cores_of c.args.left.now) (cores_of c.args.right.now)) c.in_ok-rows.rows c.frame-target.result c.in_ok-made.made
    c.requires.framed c.frame-target.ensures c.in_ok-rows.ensures c.in_ok-made.ensures.number c.in_ok-made.ensures.placed c.in_ok-made.ensures.rows
