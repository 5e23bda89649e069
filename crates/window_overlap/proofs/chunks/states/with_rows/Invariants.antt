use Rattle.std.proofs.Common.{◌≡◌, ◌+◌, ◌++◌, List, take}
use Rattle.cell_values.specs.declared.datum.Row.{Row}
use Rattle.array_rows.specs.Rows.{IsRising}
use Rattle.logical_plan.specs.declared.parts.Aggregate.{Aggregate}
use Rattle.agg_states.specs.Stands.{StandsFor}
use Rattle.window_overlap.proofs.chunks.states.with_rows.Given as goal

abbrev pub invariant-loop-row : goal.invariant-loop-row
invariant-loop-row l = record {
  stands : (g : Aggregate) (before : List Row) → StandsFor g before l.initial.state → g.attribute ≡ l.attribute → IsRising (before ++ l.rows) → StandsFor g (before ++ take l.row-index l.rows) l.state;
  cells : l.state.cells ≡ l.initial.state.cells + l.row-index;
}
