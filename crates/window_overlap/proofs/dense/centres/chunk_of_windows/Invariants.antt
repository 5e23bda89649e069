use Rattle.std.proofs.Common.{◌≡◌, take}
use Rattle.array_rows.specs.Cellwise.{cell_wise}
use Rattle.area_cells.specs.Found.{found_rows}
use Rattle.area_cells.specs.Inner.Filled.{IsFilled}
use Rattle.window_overlap.specs.Cores.{window_within}
use Rattle.window_overlap.proofs.dense.centres.chunk_of_windows.Given as goal

abbrev pub invariant-loop-k : goal.invariant-loop-k
invariant-loop-k l = record {
  number : l.made.at ≡ l.number;
  filled : IsFilled l.target.low.items l.target.lengths.items (cell_wise (window_within l.area l.reach l.aggs (found_rows l.grid l.all)) (found_rows l.grid (take l.k l.all))) l.made;
}
