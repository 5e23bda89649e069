use Rattle.store_versions.proofs.Made.{bases_are_seen, bases_have_directories}
use Rattle.store_versions.proofs.laws.bases_are_seen.Goals as goal

pub returns-clause-seen : goal.returns-clause-seen
returns-clause-seen c = bases_are_seen

pub returns-clause-directories : goal.returns-clause-directories
returns-clause-directories c = bases_have_directories
