use Rattle.std.proofs.Common.{◌≡◌, [], drop}
use Rattle.check_rules.specs.InTurn.{in_turn}
use Rattle.check_groups.specs.Aggregates.{aggregate_one}
use Rattle.check_groups.proofs.aggregates.aggregate.aggregates_of.Given as goal

abbrev pub invariant-loop-argument : goal.invariant-loop-argument
invariant-loop-argument l =
    in_turn (aggregate_one l.span l.attributes l.names) l.done (drop l.argument-index l.arguments) ≡ in_turn (aggregate_one l.span l.attributes l.names) [] l.arguments
