use Rattle.std.proofs.Common.{ap, ◌∙◌}
use Rattle.cell_values.specs.declared.schema.Bounds.{Bounds}
use Rattle.array_rows.specs.Boxes.{bounds_of, meet, within}
use Rattle.array_geom.specs.Geometry.{frame}
use Rattle.array_parts.specs.Cores.{cores_of}
use Rattle.logical_plan.specs.BoxOps.{subarray_rows}
use Rattle.area_cells.proofs.PieceLaws.{all_within}
use Rattle.exec_box.proofs.PieceLaws.{is_part_at}
use Rattle.exec_box.proofs.arrays.part_pieces.chunk_of_part.Goals as goal

pub chunk_of_rows-requires-clause-inside : goal.chunk_of_rows-requires-clause-inside
chunk_of_rows-requires-clause-inside c =
    let rows = subarray_rows (meet (bounds_of c.args.array.now.schema.dimensions) c.args.area.now) (cores_of c.args.array.now) in
    all_within (frame c.args.schema.now.dimensions c.args.margins.now.items c.args.number.now.items) rows c.in_ok-rows.rows (c.in_ok-rows.ensures ∙ ap (λ (b : Bounds). within b rows) c.frame-target.ensures)

pub returns : goal.returns
returns c =
    is_part_at c.args.schema.now c.args.margins.now.items c.args.number.now (subarray_rows (meet (bounds_of c.args.array.now.schema.dimensions) c.args.area.now) (cores_of c.args.array.now)) c.in_ok-rows.rows c.frame-target.result c.in_ok-made.made
    c.requires.framed c.frame-target.ensures c.in_ok-rows.ensures c.in_ok-made.ensures.number c.in_ok-made.ensures.placed c.in_ok-made.ensures.rows
