use Rattle.std.proofs.Common.{◌≡◌, length}
use Rattle.check_rules.specs.Sorts.{is_name, is_expression, first_but_pairs}
use Rattle.check_rules.proofs.operators.sort.first_but_values.Given as goal

abbrev pub invariant-loop-left : goal.invariant-loop-left
invariant-loop-left l = first_but_pairs is_name is_expression l.left ≡ first_but_pairs is_name is_expression l.arguments

abbrev pub decreases-loop-left : goal.decreases-loop-left
decreases-loop-left l = length l.left
