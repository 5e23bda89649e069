use Rattle.store_versions.proofs.Seen.{forgetting_is_seen}
use Rattle.store_versions.proofs.laws.forgetting_is_seen.Goals as goal

pub returns : goal.returns
returns c = forgetting_is_seen
