use Rattle.file_meaning.proofs.Counts.{counts_agree}
use Rattle.file_meaning.proofs.laws.page_counts_agree.Goals as goal

pub returns : goal.returns
returns c = counts_agree
