use Rattle.std.proofs.lemmas.Result.{IfOk-at_ok, IfOk-weaker}
use Rattle.logical_plan.proofs.copies.both_copies.Goals as goal

pub returns : goal.returns
returns g c = IfOk-weaker c.both.result _ _ (λ made same. (IfOk-at_ok _ same.0 c.copy.ensures, IfOk-at_ok _ same.1 c.copy-2.ensures)) c.both.ensures
