use Rattle.std.proofs.Common.{take}
use Rattle.area_cells.specs.Found.{found_rows}
use Rattle.window_overlap.specs.Inner.Dense.{AreColumns}
use Rattle.window_overlap.proofs.dense.centres.columns_of.Given as goal

abbrev pub invariant-loop-k : goal.invariant-loop-k
invariant-loop-k l = AreColumns l.grid (found_rows l.grid l.found) (take l.k l.aggs) l.columns
