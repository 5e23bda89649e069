use Rattle.std.proofs.Common.{subst}
use Rattle.cell_values.specs.declared.schema.Schema.{Schema}
use Rattle.logical_plan.specs.PlanSchema.{schema_of}
use Rattle.check_rules.specs.Checked.{Answers}
use Rattle.check_joins.specs.JoinSchemas.{joined_schema}
use Rattle.afl_types.proofs.queries.join_calls.joined_over.Goals as goal

pub returns : goal.returns
returns c =
    subst (λ (shape : Schema). Answers c.join_schema.result (joined_schema c.args.span shape (schema_of c.args.right.now))) c.in_ok-left_schema.ensures
    (subst (λ (shape : Schema). Answers c.join_schema.result (joined_schema c.args.span c.in_ok-left_schema.left_schema shape)) c.in_ok-right_schema.ensures c.join_schema.ensures.answer)
