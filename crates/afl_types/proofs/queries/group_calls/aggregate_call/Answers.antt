use Rattle.logical_plan.specs.Query.{aggregated}
use Rattle.check_joins.specs.Groups.{aggregate_parts}
use Rattle.afl_types.proofs.Made.{made_then}
use Rattle.afl_types.proofs.queries.group_calls.aggregate_call.Goals as goal

pub returns-in-Ok : goal.returns-in-Ok
returns-in-Ok c =
    made_then c.args.span c.of_made.result c.aggregate.result (aggregate_parts c.args.span c.args.shape.now c.args.arguments.now) (λ p. aggregated c.args.source p.aggregates p.places) c.in-Ok.parts c.in-Ok.ensures
    c.aggregate.ensures c.of_made.ensures
