use Rattle.std.proofs.Common.{◌≡◌, ◌++◌}
use Rattle.std.specs.Vec.Iter.{into_iter_items}
use Rattle.array_rows.specs.Boxes.{within}
use Rattle.shape_exec.proofs.row_order.keep_inside.Given as goal

abbrev pub invariant-loop-row : goal.invariant-loop-row
invariant-loop-row l = l.kept ++ within l.area (into_iter_items l.row-iterator) ≡ within l.area l.fn.rows
