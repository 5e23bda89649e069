use Rattle.std.proofs.Common.{take}
use Rattle.array_rows.specs.Boxes.{is_inside}
use Rattle.exec_box.specs.Inner.Reached.{AreReached, chunks_from}
use Rattle.exec_box.proofs.arrays.part_pieces.reached_by_part.Given as goal

abbrev pub invariant-loop-k : goal.invariant-loop-k
invariant-loop-k l = AreReached l.array.schema.dimensions l.schema.dimensions (is_inside l.area) (chunks_from l.array.schema.dimensions l.area.lo.items) (take l.k l.chunks) l.found
