use Rattle.logical_plan.specs.Query.{sorted}
use Rattle.logical_plan.proofs.plan.Plan.sort.Goals as goal

pub returns-in-Ok : goal.returns-in-Ok
returns-in-Ok c = let same = c.in-Ok.ensures in λ i. sorted (same.0 i) (same.1 i).0 (same.1 i).1
