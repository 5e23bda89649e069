use Rattle.expr_nulls.proofs.Sound.{typed_values_fit_all}
use Rattle.expr_nulls.proofs.evaluate.typed_values_fit.Goals as goal

pub returns : goal.returns
returns c = typed_values_fit_all
