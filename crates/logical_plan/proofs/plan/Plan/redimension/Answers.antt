use Rattle.logical_plan.specs.Query.{redimensioned}
use Rattle.logical_plan.proofs.plan.Plan.redimension.Goals as goal

pub returns-in-Ok : goal.returns-in-Ok
returns-in-Ok c = let same = c.in-Ok.ensures in λ i. redimensioned (same.0 i) (same.1 i).0 (same.1 i).1
