use Rattle.std.proofs.lemmas.Result.{IfOk-at_ok}
use Rattle.logical_plan.specs.Query.{merged}
use Rattle.logical_plan.proofs.copies.merge_of.Goals as goal

pub returns-in-Ok : goal.returns-in-Ok
returns-in-Ok c = λ l r of_l of_r.
    let made = c.in-Ok.ensures in
    let left = IfOk-at_ok _ made.0 of_l in
    let right = IfOk-at_ok _ made.1 of_r in
    λ i. merged (left i) (right i)
