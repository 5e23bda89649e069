use Rattle.std.proofs.Common.{◌≡◌, drop}
use Rattle.check_rules.specs.Sorts.{is_bound, first_but}
use Rattle.check_rules.proofs.operators.sort.first_but_bounds.Given as goal

abbrev pub invariant-loop-argument : goal.invariant-loop-argument
invariant-loop-argument l = first_but is_bound l.arguments ≡ first_but is_bound (drop l.argument-index l.arguments)
