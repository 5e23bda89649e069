use Rattle.std.proofs.Common.{◌≡◌, ◌++◌, take}
use Rattle.exec_join.proofs.arrays.cross_pieces.push_each.Given as goal

abbrev pub invariant-loop-number : goal.invariant-loop-number
invariant-loop-number l = l.out.items ≡ l.initial.out.items ++ take l.number-index l.numbers
