use Rattle.check_exprs.proofs.KindLemmas.{typed_have_kinds}
use Rattle.check_exprs.proofs.laws.typed_expressions_have_kinds.Goals as goal

pub returns : goal.returns
returns c = typed_have_kinds
