use Rattle.std.proofs.Common.{◌≡◌, ◌+◌, ◌<◌, ◌≤◌, ℕ, List, length, slice_index_or}
use Rattle.cell_values.specs.declared.datum.Row.{Row}
use Rattle.array_rows.specs.Rows.{Coordinate}
use Rattle.logical_plan.specs.declared.parts.Aggregate.{Aggregate}
use Rattle.window_overlap.specs.Inner.Dense.{AreNumbers, HasSeen, place_of, spot}
use Rattle.window_overlap.proofs.dense.numbers.state_of.Given as goal

abbrev pub invariant-loop-k : goal.invariant-loop-k
invariant-loop-k l = record {
  seen : (g : Aggregate) (corner : Coordinate) (rows : List Row) → g.function ≡ l.fn.function → AreNumbers l.grid rows g.attribute l.present l.numbers → length l.window.low.items ≡ length corner
      → ((k : ℕ) → k < length l.offsets → place_of l.grid (l.base + slice_index_or l.offsets k 0) ≡ spot l.window corner k) → HasSeen g l.window corner rows l.k l.state;
  cells : l.state.cells ≤ l.k;
}
