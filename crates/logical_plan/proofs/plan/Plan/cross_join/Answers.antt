use Rattle.logical_plan.specs.Query.{crossed}
use Rattle.logical_plan.proofs.plan.Plan.cross_join.Goals as goal

pub returns-in-Ok : goal.returns-in-Ok
returns-in-Ok c = let same = c.in-Ok.ensures in λ i. crossed (same.0 i) (same.1 i) (same.2 i).0 (same.2 i).1
