use Rattle.std.proofs.Common.{◌≡◌, ◌+◌, drop}
use Rattle.std.specs.List.{prefix_len}
use Rattle.check_groups.specs.AggregateSort.{is_aggregate}
use Rattle.check_groups.proofs.aggregates.sort.leading_aggregates.Given as goal

abbrev pub invariant-loop-place : goal.invariant-loop-place
invariant-loop-place l = prefix_len is_aggregate l.arguments ≡ l.place + prefix_len is_aggregate (drop l.place l.arguments)
