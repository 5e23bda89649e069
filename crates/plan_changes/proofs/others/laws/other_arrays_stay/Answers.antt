use Rattle.plan_changes.proofs.Stays.{entries_stay, arrays_stay, plans_stay}
use Rattle.plan_changes.proofs.others.laws.other_arrays_stay.Goals as goal

pub returns-clause-entries : goal.returns-clause-entries
returns-clause-entries c = entries_stay

pub returns-clause-arrays : goal.returns-clause-arrays
returns-clause-arrays c = arrays_stay

pub returns-clause-plans : goal.returns-clause-plans
returns-clause-plans c = plans_stay
