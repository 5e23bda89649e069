use Rattle.std.proofs.Common.{◌≡◌, drop}
use Rattle.check_rules.specs.Sorts.{is_number, first_but}
use Rattle.check_rules.proofs.operators.sort.first_but_numbers.Given as goal

abbrev pub invariant-loop-argument : goal.invariant-loop-argument
invariant-loop-argument l = first_but is_number l.arguments ≡ first_but is_number (drop l.argument-index l.arguments)
