use Rattle.std.proofs.Common.{arith}
use Rattle.afl_types.proofs.ParsedLeaves.{parsed_leaves}
use Rattle.test_quiet.proofs.statements.statement.Goals as goal

pub checked-typed-requires-clause-fits : goal.checked-typed-requires-clause-fits
checked-typed-requires-clause-fits c = parsed_leaves c.args.text.now c.in-Ok.tree (λ i. omega (arith, c.type_inv.text i)) c.in-Ok.ensures.tree
