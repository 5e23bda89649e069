use Rattle.std.proofs.Common.{◌≡◌, map, take}
use Rattle.logical_plan.specs.Groups.{aggregate_of, cells_of}
use Rattle.window_overlap.specs.Inner.Runs.{rows_of}
use Rattle.window_overlap.proofs.chunks.states.values_of.Given as goal

abbrev pub invariant-loop-aggregate : goal.invariant-loop-aggregate
invariant-loop-aggregate l = l.values ≡ map (λ g. aggregate_of g (cells_of (rows_of l.rows l.runs))) (take l.aggregate-index l.aggs)
