use Rattle.std.proofs.Common.{◌≡◌, ◌++◌}
use Rattle.std.specs.Vec.Iter.{into_iter_items}
use Rattle.array_parts.specs.Cores.{cores_of}
use Rattle.changed_chunks.specs.Wanted.{target_wanted}
use Rattle.changed_chunks.proofs.chunks.wanted.wanted_chunks.Given as goal

abbrev pub invariant-loop-number : goal.invariant-loop-number
invariant-loop-number l =
    l.wanted ++ target_wanted l.put.schema.dimensions (cores_of l.put) (into_iter_items l.number-iterator) ≡ target_wanted l.put.schema.dimensions (cores_of l.put) l.fn.stored
