use Rattle.std.proofs.lemmas.Result.{IfOk-at_ok}
use Rattle.logical_plan.specs.Query.{joined}
use Rattle.logical_plan.proofs.copies.join_of.Goals as goal

pub returns-in-Ok : goal.returns-in-Ok
returns-in-Ok c = λ l r of_l of_r.
    let made = c.in-Ok.ensures in
    let sources = IfOk-at_ok _ made.0 c.both.ensures in
    let left = IfOk-at_ok _ sources.0 of_l in
    let right = IfOk-at_ok _ sources.1 of_r in
    let parts = IfOk-at_ok _ made.1 c.copy.ensures in
    λ i. joined (left i) (right i) (parts i)
