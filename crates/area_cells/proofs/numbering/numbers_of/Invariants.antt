use Rattle.std.proofs.Common.{◌≡◌, map, take}
use Rattle.area_cells.proofs.numbering.numbers_of.Given as goal

abbrev pub invariant-loop-chunk : goal.invariant-loop-chunk
invariant-loop-chunk l = l.numbers ≡ map (λ chunk. chunk.at) (take l.chunk-index l.chunk-items)
