use Rattle.std.proofs.Common.{◌≡◌, true, take}
use Rattle.std.specs.List.{list_all}
use Rattle.plan_changes.specs.Allowed.{has_number}
use Rattle.version_catalog.proofs.changing.rules.all_numbers.Given as goal

abbrev pub invariant-loop-array : goal.invariant-loop-array
invariant-loop-array l = list_all (λ array. has_number l.name array.entry) (take l.array-index l.arrays) ≡ true
