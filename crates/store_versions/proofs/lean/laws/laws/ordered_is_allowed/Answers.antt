use Rattle.store_versions.proofs.Legal.{ordered_is_allowed}
use Rattle.store_versions.proofs.lean.laws.laws.ordered_is_allowed.Goals as goal

pub returns : goal.returns
returns c = ordered_is_allowed
