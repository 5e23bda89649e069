use Rattle.logical_plan.specs.PlanSchema.{schema_of}
use Rattle.logical_plan.specs.Query.{joined}
use Rattle.check_joins.specs.JoinSchemas.{joined_schema}
use Rattle.afl_types.proofs.Made.{made_then}
use Rattle.afl_types.proofs.queries.join_calls.join_call.Goals as goal

pub returns-in-Ok : goal.returns-in-Ok
returns-in-Ok c =
    made_then c.args.span c.of_made.result c.join.result (joined_schema c.args.span (schema_of c.args.left) (schema_of c.args.right))
    (λ schema. joined c.args.left c.args.right schema) c.in-Ok.schema c.in-Ok.ensures
    c.join.ensures c.of_made.ensures
