use Rattle.logical_plan.specs.PlanSchema.{schema_of}
use Rattle.logical_plan.specs.Query.{concatenated}
use Rattle.check_shapes.specs.Pairs.{concat_rules}
use Rattle.check_shapes.specs.Tables.{all_hold}
use Rattle.afl_types.proofs.Made.{made_then}
use Rattle.afl_types.proofs.queries.shape_calls.concat_call.Goals as goal

pub returns-in-Ok : goal.returns-in-Ok
returns-in-Ok c =
    made_then c.args.span c.of_made.result c.concat.result (all_hold (concat_rules c.args.span c.args.at (schema_of c.args.left) (schema_of c.args.right)))
    (λ hold. concatenated c.args.left c.args.right) tt c.in-Ok.ensures
    c.concat.ensures c.of_made.ensures
