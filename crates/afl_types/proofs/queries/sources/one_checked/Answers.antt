use Rattle.afl_types.specs.Calls.{ruled}
use Rattle.afl_types.proofs.Ruled.{err_source, ok_source}
use Rattle.afl_types.proofs.Small.{small_ok}
use Rattle.afl_types.proofs.queries.sources.one_checked.Goals as goal

pub ruled-requires-clause-attributes : goal.ruled-requires-clause-attributes
ruled-requires-clause-attributes c = (small_ok c.args.source c.in-Ok.source c.in-Ok.is c.requires).attributes

pub ruled-requires-clause-dimensions : goal.ruled-requires-clause-dimensions
ruled-requires-clause-dimensions c = (small_ok c.args.source c.in-Ok.source c.in-Ok.is c.requires).dimensions

pub returns-in-Ok : goal.returns-in-Ok
returns-in-Ok c =
    ok_source (λ plan. ruled c.args.span c.args.operator c.args.at plan c.args.arguments.now) c.args.source c.ruled.result c.in-Ok.source c.in-Ok.is
    c.ruled.ensures

pub returns-in-Err : goal.returns-in-Err
returns-in-Err c =
    err_source (λ plan. ruled c.args.span c.args.operator c.args.at plan c.args.arguments.now) c.args.source c.in-Err.fault c.in-Err.is
