use Rattle.logical_plan.proofs.LeafMeanings.{same_meaning}
use Rattle.logical_plan.proofs.meaning.laws.meaning_reads_leaves.Goals as goal

pub returns : goal.returns
returns c = same_meaning
