use Rattle.std.proofs.Common.{take}
use Rattle.order_exec.proofs.HullLaws.{CoversSoFar}
use Rattle.order_exec.proofs.core_hulls.box_of_cores.Given as goal

abbrev pub invariant-loop-chunk : goal.invariant-loop-chunk
invariant-loop-chunk l = CoversSoFar l.schema.dimensions (take l.chunk-index l.chunks) l.area
