use Rattle.std.specs.Vec.Iter.{into_iter_items}
use Rattle.order_exec.proofs.PartLaws.{PartsSoFar}
use Rattle.order_exec.proofs.running_chunks.parts_by_chunk.Given as goal

abbrev pub invariant-loop-chunk : goal.invariant-loop-chunk
invariant-loop-chunk l =
    PartsSoFar l.along.place l.along.low l.along.aggs.now l.schema l.margins.items l.target l.none.items l.fn.chunks (into_iter_items l.chunk-iterator) l.parts l.taken.lines l.taken.cells
