use Rattle.std.proofs.Common.{List, [], subst}
use Rattle.cell_values.specs.declared.schema.Attribute.{Attribute}
use Rattle.check_rules.specs.Checked.{Answers}
use Rattle.check_rules.specs.InTurn.{in_turn}
use Rattle.check_cellwise.specs.Project.{projected_one}
use Rattle.check_cellwise.proofs.cells.project.projected_by.Goals as goal

pub returns : goal.returns
returns c = subst (λ (attributes : List Attribute). Answers c.attribute_places.result (in_turn (projected_one attributes) [] c.args.names.now)) c.as_slice.ensures c.attribute_places.ensures
