use Rattle.std.proofs.Common.{◌≡◌, ◌++◌, take}
use Rattle.shape_exec.proofs.concatenation.push_each.Given as goal

abbrev pub invariant-loop-number : goal.invariant-loop-number
invariant-loop-number l = l.out.items ≡ l.fn.out.items ++ take l.number-index l.numbers
