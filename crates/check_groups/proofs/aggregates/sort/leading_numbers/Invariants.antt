use Rattle.std.proofs.Common.{◌≡◌, ◌+◌, drop}
use Rattle.std.specs.List.{prefix_len}
use Rattle.check_rules.specs.Sorts.{is_number}
use Rattle.check_groups.proofs.aggregates.sort.leading_numbers.Given as goal

abbrev pub invariant-loop-place : goal.invariant-loop-place
invariant-loop-place l = prefix_len is_number l.arguments ≡ l.place + prefix_len is_number (drop l.place l.arguments)
