use Rattle.std.proofs.Common.{take}
use Rattle.std.specs.List.{AllByRecursion}
use Rattle.changed_chunks.specs.Inner.Unchanged.{IsStorableChunk}
use Rattle.changed_chunks.proofs.chunks.unchanged.are_storable_chunks.Given as goal

abbrev pub invariant-loop-chunk : goal.invariant-loop-chunk
invariant-loop-chunk l = AllByRecursion (IsStorableChunk l.schema l.margins.items) (take l.chunk-index l.chunks)
