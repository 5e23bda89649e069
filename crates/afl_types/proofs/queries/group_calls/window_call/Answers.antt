use Rattle.logical_plan.specs.Query.{windowed}
use Rattle.check_joins.specs.Windows.{window_parts}
use Rattle.afl_types.proofs.Made.{made_then}
use Rattle.afl_types.proofs.queries.group_calls.window_call.Goals as goal

pub returns-in-Ok : goal.returns-in-Ok
returns-in-Ok c =
    made_then c.args.span c.of_made.result c.window.result (window_parts c.args.span c.args.shape.now c.args.arguments.now) (λ p. windowed c.args.source p.reach p.aggregates) c.in-Ok.parts c.in-Ok.ensures
    c.window.ensures c.of_made.ensures
