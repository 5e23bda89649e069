use Rattle.std.proofs.Common.{subst}
use Rattle.cell_values.specs.declared.schema.Schema.{Schema}
use Rattle.logical_plan.specs.PlanSchema.{schema_of}
use Rattle.check_rules.specs.Checked.{Answers}
use Rattle.check_shapes.specs.Pairs.{merge_rules}
use Rattle.check_shapes.specs.Tables.{all_hold}
use Rattle.afl_types.proofs.queries.shape_calls.check_merge_of.Goals as goal

pub returns : goal.returns
returns c =
    subst (λ (shape : Schema). Answers c.check_merge.result (all_hold (merge_rules c.args.span shape (schema_of c.args.right.now)))) c.in_ok-left_schema.ensures
    (subst (λ (shape : Schema). Answers c.check_merge.result (all_hold (merge_rules c.args.span c.in_ok-left_schema.left_schema shape))) c.in_ok-right_schema.ensures c.check_merge.ensures)
