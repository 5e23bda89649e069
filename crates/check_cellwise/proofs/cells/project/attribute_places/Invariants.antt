use Rattle.std.proofs.Common.{◌≡◌, [], drop}
use Rattle.check_rules.specs.InTurn.{in_turn}
use Rattle.check_cellwise.specs.Project.{projected_one}
use Rattle.check_cellwise.proofs.cells.project.attribute_places.Given as goal

abbrev pub invariant-loop-name : goal.invariant-loop-name
invariant-loop-name l = in_turn (projected_one l.attributes) l.done (drop l.name-index l.names) ≡ in_turn (projected_one l.attributes) [] l.names
