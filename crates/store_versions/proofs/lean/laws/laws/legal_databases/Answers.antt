use Rattle.store_versions.proofs.Legal.{legal_databases}
use Rattle.store_versions.proofs.lean.laws.laws.legal_databases.Goals as goal

pub returns : goal.returns
returns c = legal_databases
