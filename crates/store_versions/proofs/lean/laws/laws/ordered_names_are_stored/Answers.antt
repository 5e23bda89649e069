use Rattle.store_versions.proofs.Legal.{ordered_names_are_stored}
use Rattle.store_versions.proofs.lean.laws.laws.ordered_names_are_stored.Goals as goal

pub returns : goal.returns
returns c = ordered_names_are_stored
