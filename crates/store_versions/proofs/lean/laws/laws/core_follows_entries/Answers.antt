use Rattle.event_core.proofs.Steps.{core_step}
use Rattle.store_versions.proofs.lean.laws.laws.core_follows_entries.Goals as goal

pub returns : goal.returns
returns c = core_step
