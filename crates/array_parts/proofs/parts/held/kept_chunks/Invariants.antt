use Rattle.std.proofs.Common.{◌≡◌, ◌++◌, filter}
use Rattle.std.specs.List.{AllByRecursion}
use Rattle.std.specs.Vec.Iter.{into_iter_items}
use Rattle.array_parts.specs.Parts.{holds_cell}
use Rattle.array_parts.specs.Placed.{HasPlaces}
use Rattle.array_parts.proofs.parts.held.kept_chunks.Given as goal

abbrev pub invariant-loop-chunk : goal.invariant-loop-chunk
invariant-loop-chunk l = AllByRecursion (HasPlaces l.schema l.margins.items) (into_iter_items l.chunk-iterator)
    × (l.kept ++ filter (holds_cell l.schema.dimensions l.margins.items) (into_iter_items l.chunk-iterator) ≡ filter (holds_cell l.schema.dimensions l.margins.items) l.fn.chunks)
