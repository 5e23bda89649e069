use Rattle.std.proofs.Common.{◌≡◌, ◌++◌, map, take}
use Rattle.result_print.specs.Texts.{listed}
use Rattle.result_print.proofs.spelling.write_list.Given as goal

abbrev pub invariant-loop-at : goal.invariant-loop-at
invariant-loop-at g l = l.out ≡ l.initial.out ++ listed (map g.T.Spelled.bytes (take l.at l.parts))
