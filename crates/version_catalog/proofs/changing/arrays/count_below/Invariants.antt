use Rattle.std.proofs.Common.{◌≡◌, ◌≤◌, nat_lt, take}
use Rattle.std.specs.List.{count_by}
use Rattle.version_catalog.proofs.changing.arrays.count_below.Given as goal

abbrev pub invariant-loop-number : goal.invariant-loop-number
invariant-loop-number l = record {
  counted : l.count ≡ count_by (λ number. nat_lt number l.below) (take l.number-index l.number-items);
  within : l.count ≤ l.number-index;
}
