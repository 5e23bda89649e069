use Rattle.std.proofs.Common.{◌≡◌, take}
use Rattle.area_cells.proofs.bands.copies.Given as goal

abbrev pub invariant-loop-chunk : goal.invariant-loop-chunk
invariant-loop-chunk l = l.copies ≡ take l.chunk-index l.chunks
