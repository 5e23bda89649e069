use Rattle.commit_pages.proofs.Parts.{written_are_there}
use Rattle.commit_pages.proofs.pages.laws.written_chunks_are_there.Goals as goal

pub returns : goal.returns
returns c = written_are_there
