use Rattle.chunk_source.proofs.NumberedLaws.{same_meaning}
use Rattle.chunk_source.proofs.leaves.numbers.laws.numbered_plans_mean_the_same.Goals as goal

pub returns : goal.returns
returns c = same_meaning
