use Rattle.std.proofs.Common.{◌≡◌, None, drop}
use Rattle.std.specs.List.{AllByRecursion, flat_map}
use Rattle.array_geom.specs.Link.{chunk_rows}
use Rattle.array_parts.specs.Placed.{HasPlaces}
use Rattle.chunk_exec.specs.Least.{least_from}
use Rattle.chunk_exec.proofs.rows.rows.faults.first.least_fault.Given as goal

abbrev pub invariant-loop-chunk : goal.invariant-loop-chunk
invariant-loop-chunk l = AllByRecursion (HasPlaces l.schema l.margins.items) (drop l.chunk-index l.chunks)
    × (least_from l.least (flat_map (chunk_rows l.schema.dimensions l.margins.items) (drop l.chunk-index l.chunks)) ≡ least_from None (flat_map (chunk_rows l.schema.dimensions l.margins.items) l.chunks))
