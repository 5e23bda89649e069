use Rattle.array_store.proofs.Made.{may_be_made}
use Rattle.array_store.proofs.CommitsWorked.{worked}
use Rattle.array_store.proofs.changes.commits.laws.fresh_changes_may_be_made.Goals as goal

pub returns-clause-changes : goal.returns-clause-changes
returns-clause-changes c = may_be_made

pub returns-clause-worked : goal.returns-clause-worked
returns-clause-worked c = worked
