use Rattle.logical_plan.specs.Query.{redimensioned}
use Rattle.check_sources.specs.Redimension.{redimension_parts}
use Rattle.afl_types.proofs.Made.{planned_then}
use Rattle.afl_types.proofs.queries.moved_calls.redimension_call.Goals as goal

pub returns-in-Ok : goal.returns-in-Ok
returns-in-Ok c =
    planned_then c.plan_made.result c.redimension.result (redimension_parts c.args.span c.args.shape.now c.args.arguments.now)
    (λ p. redimensioned c.args.source p.schema p.aggregates) c.in-Ok.parts c.in-Ok.ensures
    c.redimension.ensures c.plan_made.ensures
