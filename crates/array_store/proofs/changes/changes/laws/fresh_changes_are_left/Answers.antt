use Rattle.array_store.proofs.FreshLaws.{fresh_are_left}
use Rattle.array_store.proofs.changes.changes.laws.fresh_changes_are_left.Goals as goal

pub returns : goal.returns
returns c = fresh_are_left
