use Rattle.std.proofs.Common.{◌≡◌, ◌++◌, length, take}
use Rattle.std.specs.List.{flat_map}
use Rattle.std.specs.Int.{w64, to_le_bytes}
use Rattle.chunk_rle.specs.Inner.Valued.{as_run}
use Rattle.chunk_rle.specs.Spelling.{spell_run}
use Rattle.chunk_rle.proofs.numbers.put_number_runs.Given as goal

abbrev pub invariant-loop-run : goal.invariant-loop-run
invariant-loop-run l = l.out ≡ l.fn.out ++ (to_le_bytes w64 (length l.runs) ++ flat_map (λ run. spell_run (as_run run)) (take l.run-index l.runs))
