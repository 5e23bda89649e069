use Rattle.std.specs.Vec.Iter.{into_iter_items}
use Rattle.chunk_source.proofs.ChunkRows.{AreGathered}
use Rattle.chunk_source.proofs.leaves.parts.gathering.all_rows.Given as goal

abbrev pub invariant-loop-chunk : goal.invariant-loop-chunk
invariant-loop-chunk l = AreGathered l.schema l.margins.items l.rows (into_iter_items l.chunk-iterator) l.fn.chunks
