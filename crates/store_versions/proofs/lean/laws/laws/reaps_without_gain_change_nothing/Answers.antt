use Rattle.store_versions.proofs.Conserved.{reaps_without_gain_change_nothing}
use Rattle.store_versions.proofs.lean.laws.laws.reaps_without_gain_change_nothing.Goals as goal

pub returns : goal.returns
returns c = reaps_without_gain_change_nothing
