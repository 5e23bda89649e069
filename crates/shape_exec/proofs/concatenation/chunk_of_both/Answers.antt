use Rattle.std.proofs.Common.{ap, ◌∙◌}
use Rattle.cell_values.specs.declared.schema.Bounds.{Bounds}
use Rattle.array_rows.specs.Boxes.{within}
use Rattle.array_geom.specs.Geometry.{frame}
use Rattle.array_parts.specs.Cores.{cores_of}
use Rattle.area_cells.proofs.PieceLaws.{all_within}
use Rattle.exec_box.proofs.PieceLaws.{is_part_at}
use Rattle.logical_plan.specs.Shapes.{concat_rows}
use Rattle.shape_exec.specs.Inner.Added.{step_of}
use Rattle.shape_exec.proofs.concatenation.chunk_of_both.Goals as goal

pub chunk_of_rows-requires-clause-inside : goal.chunk_of_rows-requires-clause-inside
chunk_of_rows-requires-clause-inside c =
    let rows = concat_rows (step_of c.args.left.now.schema c.args.right.now.schema) (cores_of c.args.left.now) (cores_of c.args.right.now) in
    all_within (frame c.args.schema.now.dimensions c.args.margins.now.items c.args.number.now.items) rows c.in_ok-rows.rows (c.in_ok-rows.ensures ∙ ap (λ (b : Bounds). within b rows) c.frame-area.ensures)

pub returns : goal.returns
returns c =
    is_part_at c.args.schema.now c.args.margins.now.items c.args.number.now (concat_rows (step_of c.args.left.now.schema c.args.right.now.schema) (cores_of c.args.left.now) (cores_of c.args.right.now)) c.in_ok-rows.rows c.frame-area.result c.in_ok-made.made
    c.requires.framed c.frame-area.ensures c.in_ok-rows.ensures c.in_ok-made.ensures.number c.in_ok-made.ensures.placed c.in_ok-made.ensures.rows
