use Rattle.std.proofs.Common.{◌≡◌, ◌++◌}
use Rattle.std.specs.Vec.Iter.{into_iter_items}
use Rattle.chunk_rle.specs.Longest.{values_of}
use Rattle.chunk_rle.proofs.columns.values_of_runs.Given as goal

abbrev pub invariant-loop-run : goal.invariant-loop-run
invariant-loop-run l = l.values ++ values_of (into_iter_items l.run-iterator) ≡ values_of l.fn.runs
