use Rattle.plan_needs.proofs.TargetLaws.{target_needs_are_sufficient}
use Rattle.plan_needs.proofs.laws.target_needs_are_sufficient.Goals as goal

pub returns : goal.returns
returns c = target_needs_are_sufficient
