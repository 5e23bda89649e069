use Rattle.array_store.proofs.Fresh.{checks_stay, changes_are_typed, changes_mean_the_same}
use Rattle.array_store.proofs.changes.laws.laws.fresh_changes_stay.Goals as goal

pub returns-clause-checks : goal.returns-clause-checks
returns-clause-checks c = checks_stay

pub returns-clause-typed : goal.returns-clause-typed
returns-clause-typed c = changes_are_typed

pub returns-clause-means : goal.returns-clause-means
returns-clause-means c = changes_mean_the_same
