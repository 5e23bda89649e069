use Rattle.std.proofs.Common.{sym}
use Rattle.test_quiet.proofs.ReadLemmas.{if_some, leaf_is_valid}
use Rattle.test_quiet.proofs.cells.leaf_of.Goals as goal

pub returns-in-Some-clause-valid : goal.returns-in-Some-clause-valid
returns-in-Some-clause-valid c =
    if_some _ _ c.leaf_in.result (λ leaf v. leaf_is_valid c.args.names.now c.args.name.now c.in-Some.entry.now leaf c.requires (sym c.in-Some.ensures) v) c.leaf_in.ensures
