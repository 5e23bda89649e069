use Rattle.std.proofs.Common.{List, subst}
use Rattle.cell_values.specs.declared.datum.Row.{Row}
use Rattle.agg_states.specs.Stands.{StandsFor}
use Rattle.window_overlap.specs.Inner.Runs.{rows_of}
use Rattle.window_overlap.proofs.StateLaws.{next_value}
use Rattle.window_overlap.proofs.chunks.states.values_of.Goals as goal

pub loop-aggregate-preserved : goal.loop-aggregate-preserved
loop-aggregate-preserved c =
    next_value c.args.aggs.now c.loop-aggregate.aggregate-index c.aggregate-item.result (rows_of c.args.rows.now c.args.runs.now) c.loop-aggregate.values c.push.new.self c.in_ok-state_of.field-0 c.finish.result c.loop-aggregate-test.true c.aggregate-item.is
    c.requires.typed c.loop-aggregate.invariant
    (subst (λ (rows : List Row). StandsFor c.aggregate-item.result (rows_of rows c.args.runs.now) c.in_ok-state_of.field-0) c.as_slice.ensures c.in_ok-state_of.ensures)
    c.finish.ensures c.in_ok-push.ensures.ok
