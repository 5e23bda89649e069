use Rattle.version_catalog.proofs.Kept.{names_are_kept}
use Rattle.version_catalog.proofs.changing.laws.names_are_kept.Goals as goal

pub returns : goal.returns
returns c = names_are_kept
