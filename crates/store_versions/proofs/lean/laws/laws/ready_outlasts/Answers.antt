use Rattle.store_versions.proofs.Cores.{ready_outlasts}
use Rattle.store_versions.proofs.lean.laws.laws.ready_outlasts.Goals as goal

pub returns : goal.returns
returns c = ready_outlasts
