use Rattle.std.proofs.Common.{◌≡◌, ◌+◌, ◌≤◌, ◌<◌, ◌++◌, ◌∷◌, drop, replicate, map}
use Rattle.array_geom.specs.Datum.TheVariants.{Int}
use Rattle.chunk_rle.specs.Inner.Valued.{as_run}
use Rattle.chunk_rle.specs.Longest.{value_runs}
use Rattle.chunk_rle.proofs.numbers.number_runs_from.Given as goal

abbrev pub invariant-loop-number : goal.invariant-loop-number
invariant-loop-number l = record {
  same : map as_run l.runs ++ value_runs (replicate l.run.length (Int l.run.number) ++ map Int (drop l.number-index l.numbers)) ≡ value_runs (Int l.fn.first ∷ map Int l.numbers);
  there : 0 < l.run.length;
  few : l.run.length ≤ l.number-index + 1;
}
