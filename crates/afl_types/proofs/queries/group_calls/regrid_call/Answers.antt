use Rattle.logical_plan.specs.Query.{regridded}
use Rattle.check_joins.specs.Blocks.{regrid_parts}
use Rattle.afl_types.proofs.Made.{made_then}
use Rattle.afl_types.proofs.queries.group_calls.regrid_call.Goals as goal

pub returns-in-Ok : goal.returns-in-Ok
returns-in-Ok c =
    made_then c.args.span c.of_made.result c.regrid.result (regrid_parts c.args.span c.args.shape.now c.args.arguments.now) (λ p. regridded c.args.source p.sizes p.aggregates) c.in-Ok.parts c.in-Ok.ensures
    c.regrid.ensures c.of_made.ensures
