use Rattle.store_versions.proofs.Legal.{legal_is_ordered}
use Rattle.store_versions.proofs.lean.laws.laws.legal_is_ordered.Goals as goal

pub returns : goal.returns
returns c = legal_is_ordered
