use Rattle.std.proofs.Common.{◌<◌, ◌∙◌, [], ap, length, rules}
use Rattle.cell_values.specs.declared.datum.Cell.TheVariants.{Full}
use Rattle.exec_cellwise.specs.Picked.{picked}
use Rattle.exec_cellwise.proofs.Picking.{one_made}
use Rattle.exec_cellwise.proofs.chunks.projecting.project_cells.Goals as goal

pub loop-k-preserved : goal.loop-k-preserved
loop-k-preserved c =
    let kept = c.args.kept.now in
    let less : c.loop-k.k < length c.args.cells.now = search rules in
    one_made (picked kept) c.args.cells.now c.loop-k.k (Full []) c.in_ok-project_cell.field-0 c.loop-k.made c.push.new.self less
    c.loop-k.invariant c.in_ok-push.ensures.ok (c.in_ok-project_cell.ensures ∙ ap (picked kept) c.in_ok-cell.ensures)
