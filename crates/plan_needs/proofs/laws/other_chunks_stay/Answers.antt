use Rattle.plan_needs.proofs.TargetLaws.{other_chunks_stay}
use Rattle.plan_needs.proofs.laws.other_chunks_stay.Goals as goal

pub returns : goal.returns
returns c = other_chunks_stay
