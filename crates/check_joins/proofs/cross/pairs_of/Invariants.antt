use Rattle.std.proofs.Common.{◌≡◌, [], length}
use Rattle.logical_plan.specs.Joins.{right_places}
use Rattle.logical_plan.specs.Typing.{left_places}
use Rattle.check_rules.specs.InTurn.{pairs_in_turn}
use Rattle.check_joins.specs.Crosses.{pair_one}
use Rattle.check_joins.proofs.cross.pairs_of.Given as goal

abbrev pub invariant-loop-names : goal.invariant-loop-names
invariant-loop-names l = record {
  rest : pairs_in_turn (pair_one l.left l.right) l.done l.names ≡ pairs_in_turn (pair_one l.left l.right) [] l.arguments;
  lefts : l.lefts ≡ left_places l.done;
  rights : l.rights ≡ right_places l.done;
}

abbrev pub decreases-loop-names : goal.decreases-loop-names
decreases-loop-names l = length l.names
