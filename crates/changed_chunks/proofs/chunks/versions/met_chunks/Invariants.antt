use Rattle.std.proofs.Common.{◌≡◌, ◌++◌, filter}
use Rattle.std.specs.List.{AllByRecursion}
use Rattle.std.specs.Vec.Iter.{into_iter_items}
use Rattle.array_parts.specs.Cores.{cores_of}
use Rattle.array_parts.specs.Placed.{HasPlaces}
use Rattle.commit_pages.specs.Lengths.{meets}
use Rattle.changed_chunks.proofs.chunks.versions.met_chunks.Given as goal

abbrev pub invariant-loop-chunk : goal.invariant-loop-chunk
invariant-loop-chunk l = AllByRecursion (HasPlaces l.put.schema l.put.margins.items) (into_iter_items l.chunk-iterator)
    × (l.met ++ filter (λ chunk. meets l.put.schema.dimensions (cores_of l.put) chunk.at.items) (into_iter_items l.chunk-iterator)
    ≡ filter (λ chunk. meets l.put.schema.dimensions (cores_of l.put) chunk.at.items) l.fn.chunks)
