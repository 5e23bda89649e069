use Rattle.store_versions.proofs.Made.{named_versions_have_directories}
use Rattle.store_versions.proofs.laws.named_versions_are_seen.Goals as goal

pub returns : goal.returns
returns c = named_versions_have_directories
