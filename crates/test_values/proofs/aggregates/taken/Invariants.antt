use Rattle.std.proofs.Common.{◌≤◌}
use Rattle.test_values.proofs.aggregates.taken.Given as goal

abbrev pub invariant-loop-word : goal.invariant-loop-word
invariant-loop-word l = (l.state.cells ≤ l.count) × (l.count ≤ 100)
