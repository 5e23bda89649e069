use Rattle.store_opening.proofs.NamedLaws.{bases_begin}
use Rattle.store_opening.proofs.bases.laws.bases_begin.Goals as goal

pub returns : goal.returns
returns c = bases_begin
