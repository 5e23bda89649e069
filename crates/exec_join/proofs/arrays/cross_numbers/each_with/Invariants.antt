use Rattle.std.proofs.Common.{take}
use Rattle.exec_join.specs.Inner.Pieces.{AreCrossed}
use Rattle.exec_join.proofs.arrays.cross_numbers.each_with.Given as goal

abbrev pub invariant-loop-k : goal.invariant-loop-k
invariant-loop-k l = AreCrossed l.schema.dimensions l.others (take l.k l.chunks) l.found
