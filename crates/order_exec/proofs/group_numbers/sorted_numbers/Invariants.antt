use Rattle.std.proofs.Common.{◌≡◌, ◌++◌, map}
use Rattle.std.specs.Vec.Iter.{into_iter_items}
use Rattle.logical_plan.specs.Ordered.{sorted_by}
use Rattle.order_exec.specs.Inner.Counted.{number_before}
use Rattle.order_exec.proofs.group_numbers.sorted_numbers.Given as goal

abbrev pub invariant-loop-numbers : goal.invariant-loop-numbers
invariant-loop-numbers l = l.sorted ++ map (sorted_by number_before) (into_iter_items l.numbers-iterator) ≡ map (sorted_by number_before) l.fn.groups
