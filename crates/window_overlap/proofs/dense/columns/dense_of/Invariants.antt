use Rattle.std.proofs.Common.{take}
use Rattle.area_cells.specs.Found.{found_rows}
use Rattle.window_overlap.specs.Inner.Dense.{AreNumbers}
use Rattle.window_overlap.proofs.dense.columns.dense_of.Given as goal

abbrev pub invariant-loop-k : goal.invariant-loop-k
invariant-loop-k l = AreNumbers l.grid (found_rows l.grid (take l.k l.found)) l.attribute l.present l.numbers
