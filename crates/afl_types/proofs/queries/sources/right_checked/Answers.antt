use Rattle.afl_types.specs.Calls.{ruled_two}
use Rattle.afl_types.proofs.Ruled.{err_source, ok_source}
use Rattle.afl_types.proofs.Small.{small_ok}
use Rattle.afl_types.proofs.queries.sources.right_checked.Goals as goal

pub ruled-requires-clause-left : goal.ruled-requires-clause-left
ruled-requires-clause-left c = c.requires.left.dimensions

pub ruled-requires-clause-right : goal.ruled-requires-clause-right
ruled-requires-clause-right c = (small_ok c.args.right c.in-Ok.right c.in-Ok.is c.requires.right).dimensions

pub returns-in-Ok : goal.returns-in-Ok
returns-in-Ok c =
    ok_source (λ r. ruled_two c.args.span c.args.operator c.args.at c.args.left r c.args.arguments.now) c.args.right c.ruled.result c.in-Ok.right
    c.in-Ok.is c.ruled.ensures

pub returns-in-Err : goal.returns-in-Err
returns-in-Err c =
    err_source (λ r. ruled_two c.args.span c.args.operator c.args.at c.args.left r c.args.arguments.now) c.args.right c.in-Err.fault c.in-Err.is
