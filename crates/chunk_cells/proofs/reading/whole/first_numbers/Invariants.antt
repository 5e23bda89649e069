use Rattle.std.proofs.Common.{◌≡◌, length}
use Rattle.chunk_cells.proofs.reading.whole.first_numbers.Given as goal

abbrev pub invariant-loop-chunk : goal.invariant-loop-chunk
invariant-loop-chunk l = length l.first ≡ l.chunk-index
