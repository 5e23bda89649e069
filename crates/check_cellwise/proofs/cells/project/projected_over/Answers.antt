use Rattle.std.proofs.Common.{[], subst}
use Rattle.cell_values.specs.declared.schema.Schema.{Schema}
use Rattle.check_rules.specs.Checked.{Answers}
use Rattle.check_rules.specs.InTurn.{in_turn}
use Rattle.check_cellwise.specs.Project.{projected_one}
use Rattle.check_cellwise.proofs.cells.project.projected_over.Goals as goal

pub returns : goal.returns
returns c = subst (λ (shape : Schema). Answers c.projected_by.result (in_turn (projected_one shape.attributes) [] c.args.names.now)) c.in_ok-schema.ensures c.projected_by.ensures
