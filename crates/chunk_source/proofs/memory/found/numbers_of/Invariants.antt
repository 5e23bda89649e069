use Rattle.std.proofs.Common.{◌≡◌, take}
use Rattle.chunk_source.specs.Found.{numbers_in}
use Rattle.chunk_source.proofs.memory.found.numbers_of.Given as goal

abbrev pub invariant-loop-chunk : goal.invariant-loop-chunk
invariant-loop-chunk l = l.numbers ≡ numbers_in (take l.chunk-index l.chunks)
