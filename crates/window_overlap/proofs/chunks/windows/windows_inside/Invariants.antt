use Rattle.std.proofs.Common.{◌≡◌, take}
use Rattle.array_rows.specs.Cellwise.{cell_wise}
use Rattle.window_overlap.specs.Cores.{window_within}
use Rattle.window_overlap.proofs.chunks.windows.windows_inside.Given as goal

abbrev pub invariant-loop-row : goal.invariant-loop-row
invariant-loop-row l = l.made ≡ cell_wise (window_within l.area l.reach l.aggs l.rows) (take l.row-index l.row-items)
