use Rattle.std.proofs.Common.{take}
use Rattle.exec_join.specs.Inner.Pieces.{AddsOthers}
use Rattle.exec_join.proofs.arrays.cross_numbers.push_others_of.Given as goal

abbrev pub invariant-loop-k : goal.invariant-loop-k
invariant-loop-k l = AddsOthers l.schema.dimensions l.front.items (take l.k l.others) l.initial.found l.found
