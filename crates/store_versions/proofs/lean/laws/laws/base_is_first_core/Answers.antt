use Rattle.event_core.proofs.Steps.{core_start}
use Rattle.store_versions.proofs.lean.laws.laws.base_is_first_core.Goals as goal

pub returns : goal.returns
returns c = core_start
