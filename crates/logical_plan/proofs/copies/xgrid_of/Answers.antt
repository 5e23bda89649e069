use Rattle.std.proofs.lemmas.Result.{IfOk-at_ok}
use Rattle.logical_plan.specs.Query.{xgridded}
use Rattle.logical_plan.proofs.copies.xgrid_of.Goals as goal

pub returns-in-Ok : goal.returns-in-Ok
returns-in-Ok c = λ q of_q.
    let made = c.in-Ok.ensures in
    let source = IfOk-at_ok _ made.0 of_q in
    let parts = IfOk-at_ok _ made.1 c.copy.ensures in
    λ i. xgridded (source i) (parts i)
