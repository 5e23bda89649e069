use Rattle.std.proofs.Common.{take}
use Rattle.array_geom.specs.Geometry.{chunk_of}
use Rattle.logical_plan.specs.BoxOps.{fixed_places, has_fixed, items_but}
use Rattle.exec_box.specs.Inner.Reached.{AreReached}
use Rattle.exec_box.proofs.arrays.slice_pieces.reached_by_slice.Given as goal

abbrev pub invariant-loop-k : goal.invariant-loop-k
invariant-loop-k l = AreReached l.array.schema.dimensions l.schema.dimensions (has_fixed l.fixed) (λ c. items_but (fixed_places l.fixed) 0 (chunk_of l.array.schema.dimensions c)) (take l.k l.chunks) l.found
