use Rattle.std.proofs.Common.{take}
use Rattle.std.specs.List.{AllByRecursion}
use Rattle.area_cells.specs.Found.{found_cell}
use Rattle.window_overlap.specs.Inner.Dense.{IsFull}
use Rattle.window_overlap.proofs.dense.centres.all_full.Given as goal

abbrev pub invariant-loop-k : goal.invariant-loop-k
invariant-loop-k l = AllByRecursion (λ f. IsFull (found_cell f)) (take l.k l.found)
