use Rattle.logical_plan.specs.Query.{sorted}
use Rattle.check_shapes.specs.Sort.{sort_parts}
use Rattle.afl_types.proofs.Made.{made_then}
use Rattle.afl_types.proofs.queries.order_calls.sort_call.Goals as goal

pub returns-in-Ok : goal.returns-in-Ok
returns-in-Ok c =
    made_then c.args.span c.of_made.result c.sort.result (sort_parts c.args.span c.args.shape.now c.args.arguments.now) (λ p. sorted c.args.source p.keys p.schema) c.in-Ok.parts c.in-Ok.ensures
    c.sort.ensures c.of_made.ensures
