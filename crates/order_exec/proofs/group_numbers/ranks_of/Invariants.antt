use Rattle.std.proofs.Common.{◌≡◌, take}
use Rattle.order_exec.specs.Inner.GroupNumbers.{ranks_in}
use Rattle.order_exec.proofs.group_numbers.ranks_of.Given as goal

abbrev pub invariant-loop-k : goal.invariant-loop-k
invariant-loop-k l = l.ranks ≡ ranks_in l.groups (take l.k l.places) (take l.k l.numbers)
