use Rattle.std.proofs.Common.{◌≡◌, drop}
use Rattle.check_shapes.specs.Tables.{all_hold}
use Rattle.check_shapes.proofs.rules.all_hold.Given as goal

abbrev pub invariant-loop-rule : goal.invariant-loop-rule
invariant-loop-rule l = all_hold l.rules ≡ all_hold (drop l.rule-index l.rules)
