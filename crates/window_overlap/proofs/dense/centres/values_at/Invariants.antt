use Rattle.std.proofs.Common.{◌≡◌, map, take}
use Rattle.array_rows.specs.Boxes.{within}
use Rattle.area_cells.specs.Found.{found_rows}
use Rattle.logical_plan.specs.Groups.{aggregate_of, cells_of, window}
use Rattle.window_overlap.proofs.dense.centres.values_at.Given as goal

abbrev pub invariant-loop-k : goal.invariant-loop-k
invariant-loop-k l = l.values ≡ map (λ g. aggregate_of g (cells_of (within (window l.reach l.at.items) (found_rows l.grid l.found)))) (take l.k l.aggs)
