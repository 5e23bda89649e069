use Rattle.store_versions.proofs.Conserved.{pages_are_conserved}
use Rattle.store_versions.proofs.lean.laws.laws.pages_are_conserved.Goals as goal

pub returns : goal.returns
returns c = pages_are_conserved
