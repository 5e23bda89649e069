use Rattle.std.proofs.Common.{◌∙◌, ap, map}
use Rattle.cell_values.specs.declared.datum.Cell.TheVariants.{Full}
use Rattle.exec_cellwise.proofs.ComputedLaws.{full_behind}
use Rattle.exec_cellwise.proofs.chunks.computing.cells_of_both.Goals as goal

pub returns-in-Ok : goal.returns-in-Ok
returns-in-Ok c = c.from_rows.ensures ∙ ap (map Full) c.in-Ok.ensures.ok ∙ full_behind c.args.rows c.args.more
