use Rattle.std.proofs.Common.{◌≡◌, map, take}
use Rattle.commit_pages.proofs.pages.written.numbers_of.Given as goal

abbrev pub invariant-loop-chunk : goal.invariant-loop-chunk
invariant-loop-chunk l = l.numbers ≡ map (λ chunk. chunk.at) (take l.chunk-index l.chunks)
