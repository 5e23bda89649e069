use Rattle.logical_plan.specs.Query.{joined}
use Rattle.logical_plan.proofs.plan.Plan.join.Goals as goal

pub returns-in-Ok : goal.returns-in-Ok
returns-in-Ok c = let same = c.in-Ok.ensures in λ i. joined (same.0 i) (same.1 i) (same.2 i)
