use Rattle.std.proofs.Common.{take}
use Rattle.std.specs.List.{AllByRecursion}
use Rattle.std.specs.Prelude.{IsTrue}
use Rattle.array_geom.specs.Link.{is_listed}
use Rattle.chunk_cells.specs.Inner.Numbers.{numbers_in}
use Rattle.logical_plan.specs.BoxOps.{items_but}
use Rattle.exec_join.proofs.arrays.cross_numbers.each_unpaired.Given as goal

abbrev pub invariant-loop-k : goal.invariant-loop-k
invariant-loop-k l = AllByRecursion (λ chunk. IsTrue (is_listed (items_but l.places 0 chunk.at.items) (numbers_in l.others))) (take l.k l.chunks)
