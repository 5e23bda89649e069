use Rattle.std.proofs.Common.{take}
use Rattle.order_exec.specs.Inner.GroupNumbers.{TakesNumbers}
use Rattle.order_exec.proofs.group_numbers.take_numbers.Given as goal

abbrev pub invariant-loop-k : goal.invariant-loop-k
invariant-loop-k l = TakesNumbers (take l.k l.places) (take l.k l.numbers) l.fn.groups.items l.groups.items
