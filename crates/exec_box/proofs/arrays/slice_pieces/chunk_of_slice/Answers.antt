use Rattle.std.proofs.Common.{List, length, ap, ◌∙◌}
use Rattle.cell_values.specs.declared.schema.Bounds.{Bounds}
use Rattle.cell_values.specs.declared.schema.Dimension.{Dimension}
use Rattle.array_rows.specs.Boxes.{within}
use Rattle.array_geom.specs.Geometry.{frame}
use Rattle.array_parts.specs.Cores.{cores_of}
use Rattle.logical_plan.specs.BoxOps.{slice_rows}
use Rattle.area_cells.proofs.PieceLaws.{all_within}
use Rattle.exec_box.proofs.PieceLaws.{is_part_at}
use Rattle.exec_box.proofs.SpreadLaws.{frame_highs, frame_lows}
use Rattle.exec_box.proofs.arrays.slice_pieces.chunk_of_slice.Goals as goal

pub slice_in-requires-clause-low : goal.slice_in-requires-clause-low
slice_in-requires-clause-low c =
    frame_lows c.args.schema.now c.args.margins.now.items c.args.number.now.items c.frame-target.result c.requires.framed c.frame-target.ensures ∙ ap (λ (dims : List Dimension). length dims) c.requires.schema

pub slice_in-requires-clause-high : goal.slice_in-requires-clause-high
slice_in-requires-clause-high c =
    frame_highs c.args.schema.now c.args.margins.now.items c.args.number.now.items c.frame-target.result c.requires.framed c.frame-target.ensures ∙ ap (λ (dims : List Dimension). length dims) c.requires.schema

pub chunk_of_rows-requires-clause-inside : goal.chunk_of_rows-requires-clause-inside
chunk_of_rows-requires-clause-inside c =
    let rows = slice_rows c.args.fixed.now (cores_of c.args.array.now) in
    all_within (frame c.args.schema.now.dimensions c.args.margins.now.items c.args.number.now.items) rows c.in_ok-rows.rows (c.in_ok-rows.ensures ∙ ap (λ (b : Bounds). within b rows) c.frame-target.ensures)

pub returns : goal.returns
returns c =
    is_part_at c.args.schema.now c.args.margins.now.items c.args.number.now (slice_rows c.args.fixed.now (cores_of c.args.array.now)) c.in_ok-rows.rows c.frame-target.result c.in_ok-made.made
    c.requires.framed c.frame-target.ensures c.in_ok-rows.ensures c.in_ok-made.ensures.number c.in_ok-made.ensures.placed c.in_ok-made.ensures.rows
