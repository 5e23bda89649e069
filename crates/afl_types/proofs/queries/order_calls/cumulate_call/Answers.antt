use Rattle.logical_plan.specs.Query.{cumulated}
use Rattle.check_groups.specs.Cumulations.{cumulate_parts}
use Rattle.afl_types.proofs.Made.{made_then}
use Rattle.afl_types.proofs.queries.order_calls.cumulate_call.Goals as goal

pub returns-in-Ok : goal.returns-in-Ok
returns-in-Ok c =
    made_then c.args.span c.of_made.result c.cumulate.result (cumulate_parts c.args.span c.args.shape.now c.args.arguments.now) (λ p. cumulated c.args.source p.aggregates p.dimension) c.in-Ok.parts c.in-Ok.ensures
    c.cumulate.ensures c.of_made.ensures
