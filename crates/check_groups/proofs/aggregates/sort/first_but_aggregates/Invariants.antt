use Rattle.std.proofs.Common.{◌≡◌, drop}
use Rattle.check_rules.specs.Sorts.{first_but}
use Rattle.check_groups.specs.AggregateSort.{is_aggregate}
use Rattle.check_groups.proofs.aggregates.sort.first_but_aggregates.Given as goal

abbrev pub invariant-loop-argument : goal.invariant-loop-argument
invariant-loop-argument l = first_but is_aggregate l.arguments ≡ first_but is_aggregate (drop l.argument-index l.arguments)
