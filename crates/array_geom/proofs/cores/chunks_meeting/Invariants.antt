use Rattle.std.proofs.Common.{◌≡◌, filter, take}
use Rattle.array_geom.specs.Geometry.{core_meets}
use Rattle.array_geom.proofs.cores.chunks_meeting.Given as goal

abbrev pub invariant-loop-chunk : goal.invariant-loop-chunk
invariant-loop-chunk l = l.found ≡ filter (λ chunk. core_meets l.schema.dimensions l.area chunk.items) (take l.chunk-index l.listed)
