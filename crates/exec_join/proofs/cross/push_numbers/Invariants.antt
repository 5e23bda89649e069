use Rattle.std.proofs.Common.{◌≡◌, ◌++◌, take}
use Rattle.exec_join.proofs.cross.push_numbers.Given as goal

abbrev pub invariant-loop-number : goal.invariant-loop-number
invariant-loop-number l = l.at.items ≡ l.initial.at.items ++ take l.number-index l.more
