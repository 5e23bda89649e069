use Rattle.std.proofs.Common.{◌≡◌, ◌++◌, map, replicate}
use Rattle.array_geom.specs.Datum.TheVariants.{Int}
use Rattle.chunk_rle.proofs.columns.push_run.Given as goal

abbrev pub invariant-loop : goal.invariant-loop
invariant-loop l = map Int l.numbers ≡ map Int l.fn.numbers ++ replicate l.counter (Int l.run.number)
