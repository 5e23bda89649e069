use Rattle.logical_plan.specs.PlanSchema.{schema_of}
use Rattle.logical_plan.specs.Query.{crossed}
use Rattle.check_joins.specs.Crosses.{cross_parts}
use Rattle.afl_types.proofs.Made.{made_then}
use Rattle.afl_types.proofs.queries.join_calls.cross_call.Goals as goal

pub returns-in-Ok : goal.returns-in-Ok
returns-in-Ok c =
    made_then c.args.span c.of_made.result c.cross_join.result
    (cross_parts c.args.span (schema_of c.args.left) (schema_of c.args.right) c.args.arguments.now) (λ p. crossed c.args.left c.args.right p.pairs p.schema) c.in-Ok.parts c.in-Ok.ensures
    c.cross_join.ensures c.of_made.ensures
