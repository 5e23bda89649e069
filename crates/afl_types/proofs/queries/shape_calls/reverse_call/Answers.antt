use Rattle.logical_plan.specs.PlanSchema.{schema_of}
use Rattle.logical_plan.specs.Query.{reversed}
use Rattle.check_shapes.specs.Reverse.{reverse_rules}
use Rattle.check_shapes.specs.Tables.{all_hold}
use Rattle.afl_types.proofs.Made.{planned_then}
use Rattle.afl_types.proofs.queries.shape_calls.reverse_call.Goals as goal

pub returns-in-Ok : goal.returns-in-Ok
returns-in-Ok c =
    planned_then c.plan_made.result c.reverse.result (all_hold (reverse_rules c.args.at (schema_of c.args.source))) (λ hold. reversed c.args.source) tt c.in-Ok.ensures
    c.reverse.ensures c.plan_made.ensures
