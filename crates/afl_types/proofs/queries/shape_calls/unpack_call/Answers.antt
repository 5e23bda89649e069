use Rattle.logical_plan.specs.Query.{unpacked}
use Rattle.check_shapes.specs.Unpack.{unpack_parts}
use Rattle.afl_types.proofs.Made.{made_then}
use Rattle.afl_types.proofs.queries.shape_calls.unpack_call.Goals as goal

pub returns-in-Ok : goal.returns-in-Ok
returns-in-Ok c =
    made_then c.args.span c.of_made.result c.unpack.result (unpack_parts c.args.span c.args.shape.now c.args.arguments.now) (λ schema. unpacked c.args.source schema) c.in-Ok.schema c.in-Ok.ensures
    c.unpack.ensures c.of_made.ensures
