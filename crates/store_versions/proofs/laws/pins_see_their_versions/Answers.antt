use Rattle.store_versions.proofs.Seen.{pins_see_their_versions}
use Rattle.store_versions.proofs.laws.pins_see_their_versions.Goals as goal

pub returns : goal.returns
returns c = pins_see_their_versions
