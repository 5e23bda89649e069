use Rattle.logical_plan.proofs.OrderLaws.{values_are_ordered}
use Rattle.logical_plan.proofs.laws.values_are_ordered.Goals as goal

pub returns : goal.returns
returns c = values_are_ordered
