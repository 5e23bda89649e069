use Rattle.std.proofs.Common.{◌≡◌, ◌+◌, ◌++◌, length}
use Rattle.std.specs.Vec.Iter.{into_iter_items}
use Rattle.logical_plan.specs.Ordered.{numbered}
use Rattle.order_exec.proofs.sorted_cells.numbered.Given as goal

abbrev pub invariant-loop-cell : goal.invariant-loop-cell
invariant-loop-cell l = record {
  rows : l.rows ++ numbered l.next (into_iter_items l.cell-iterator) ≡ numbered 0 l.fn.cells;
  count : l.next + length (into_iter_items l.cell-iterator) ≡ length l.fn.cells;
}
