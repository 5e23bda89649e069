use Rattle.std.proofs.Common.{◌≡◌, [], drop}
use Rattle.check_rules.specs.InTurn.{in_turn}
use Rattle.check_joins.specs.JoinSchemas.{next_name}
use Rattle.check_joins.proofs.free.free_names.Given as goal

abbrev pub invariant-loop-name : goal.invariant-loop-name
invariant-loop-name l = in_turn (next_name l.span) l.given (drop l.name-index l.names) ≡ in_turn (next_name l.span) [] l.names
