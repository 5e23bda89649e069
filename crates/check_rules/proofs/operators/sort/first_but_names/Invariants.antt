use Rattle.std.proofs.Common.{◌≡◌, drop}
use Rattle.check_rules.specs.Sorts.{is_name, first_but}
use Rattle.check_rules.proofs.operators.sort.first_but_names.Given as goal

abbrev pub invariant-loop-argument : goal.invariant-loop-argument
invariant-loop-argument l = first_but is_name l.arguments ≡ first_but is_name (drop l.argument-index l.arguments)
