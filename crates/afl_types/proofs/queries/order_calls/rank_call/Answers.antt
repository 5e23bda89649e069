use Rattle.logical_plan.specs.Query.{ranked}
use Rattle.check_shapes.specs.Rank.{rank_parts}
use Rattle.afl_types.proofs.Made.{made_then}
use Rattle.afl_types.proofs.queries.order_calls.rank_call.Goals as goal

pub returns-in-Ok : goal.returns-in-Ok
returns-in-Ok c =
    made_then c.args.span c.of_made.result c.rank.result (rank_parts c.args.span c.args.shape.now c.args.arguments.now) (λ p. ranked c.args.source p.attribute p.dimensions) c.in-Ok.parts c.in-Ok.ensures
    c.rank.ensures c.of_made.ensures
