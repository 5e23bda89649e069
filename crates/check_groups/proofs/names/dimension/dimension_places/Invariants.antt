use Rattle.std.proofs.Common.{◌≡◌, [], drop}
use Rattle.check_rules.specs.InTurn.{in_turn}
use Rattle.check_groups.specs.Names.{dimension_one}
use Rattle.check_groups.proofs.names.dimension.dimension_places.Given as goal

abbrev pub invariant-loop-name : goal.invariant-loop-name
invariant-loop-name l = in_turn (dimension_one l.dimensions) l.places (drop l.name-index l.names) ≡ in_turn (dimension_one l.dimensions) [] l.names
