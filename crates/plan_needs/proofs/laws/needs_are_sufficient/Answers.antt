use Rattle.plan_needs.proofs.AlikePlans.{needs_are_sufficient}
use Rattle.plan_needs.proofs.laws.needs_are_sufficient.Goals as goal

pub returns : goal.returns
returns c = needs_are_sufficient
