use Rattle.logical_plan.specs.Query.{xgridded}
use Rattle.check_shapes.specs.Xgrid.{xgrid_parts}
use Rattle.afl_types.proofs.Made.{made_then}
use Rattle.afl_types.proofs.queries.shape_calls.xgrid_call.Goals as goal

pub returns-in-Ok : goal.returns-in-Ok
returns-in-Ok c =
    made_then c.args.span c.of_made.result c.xgrid.result (xgrid_parts c.args.span c.args.shape.now c.args.arguments.now) (λ sizes. xgridded c.args.source sizes) c.in-Ok.sizes c.in-Ok.ensures
    c.xgrid.ensures c.of_made.ensures
