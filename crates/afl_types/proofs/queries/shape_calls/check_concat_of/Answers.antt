use Rattle.std.proofs.Common.{subst}
use Rattle.cell_values.specs.declared.schema.Schema.{Schema}
use Rattle.logical_plan.specs.PlanSchema.{schema_of}
use Rattle.check_rules.specs.Checked.{Answers}
use Rattle.check_shapes.specs.Pairs.{concat_rules}
use Rattle.check_shapes.specs.Tables.{all_hold}
use Rattle.afl_types.proofs.queries.shape_calls.check_concat_of.Goals as goal

pub returns : goal.returns
returns c =
    subst (λ (shape : Schema). Answers c.check_concat.result (all_hold (concat_rules c.args.span c.args.at shape (schema_of c.args.right.now)))) c.in_ok-left_schema.ensures
    (subst (λ (shape : Schema). Answers c.check_concat.result (all_hold (concat_rules c.args.span c.args.at c.in_ok-left_schema.left_schema shape))) c.in_ok-right_schema.ensures c.check_concat.ensures)
