use Rattle.logical_plan.specs.Query.{transposed}
use Rattle.afl_types.proofs.queries.shape_calls.transpose_call.Goals as goal

pub returns : goal.returns
returns c = c.of_made.ensures (transposed c.args.source) c.transpose.ensures
