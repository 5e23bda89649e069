use Rattle.check_rules.specs.Checked.{then}
use Rattle.afl_types.specs.Calls.{ruled_two}
use Rattle.afl_types.proofs.Ruled.{err_source, ok_source}
use Rattle.afl_types.proofs.Small.{small_ok}
use Rattle.afl_types.proofs.queries.sources.two_checked.Goals as goal

pub right_checked-requires-clause-left : goal.right_checked-requires-clause-left
right_checked-requires-clause-left c = small_ok c.args.left c.in-Ok.left c.in-Ok.is c.requires.left

pub right_checked-requires-clause-right : goal.right_checked-requires-clause-right
right_checked-requires-clause-right c = c.requires.right

pub returns-in-Ok : goal.returns-in-Ok
returns-in-Ok c = λ a b is also.
    ok_source (λ l. then b (λ r. ruled_two c.args.span c.args.operator c.args.at l r c.args.arguments.now)) c.args.left c.right_checked.result
    c.in-Ok.left c.in-Ok.is
    (c.right_checked.ensures b also) a is

pub returns-in-Err : goal.returns-in-Err
returns-in-Err c = λ a b is also.
    err_source (λ l. then b (λ r. ruled_two c.args.span c.args.operator c.args.at l r c.args.arguments.now)) c.args.left c.in-Err.fault c.in-Err.is a is
