use Rattle.file_meaning.proofs.More.{rows_with_more}
use Rattle.file_meaning.proofs.laws.more_pages_may_be_taken.Goals as goal

pub returns : goal.returns
returns c = rows_with_more
