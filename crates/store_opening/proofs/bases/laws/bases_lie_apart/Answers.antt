use Rattle.store_opening.proofs.ApartLaws.{bases_lie_apart}
use Rattle.store_opening.proofs.bases.laws.bases_lie_apart.Goals as goal

pub returns : goal.returns
returns c = bases_lie_apart
