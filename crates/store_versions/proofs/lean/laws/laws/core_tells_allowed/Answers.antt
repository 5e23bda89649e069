use Rattle.event_core.proofs.Steps.{core_allows_is}
use Rattle.store_versions.proofs.lean.laws.laws.core_tells_allowed.Goals as goal

pub returns : goal.returns
returns c = core_allows_is
