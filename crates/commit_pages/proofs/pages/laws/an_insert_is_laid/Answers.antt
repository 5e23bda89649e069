use Rattle.commit_pages.proofs.PagesWorked.{laid}
use Rattle.commit_pages.proofs.pages.laws.an_insert_is_laid.Goals as goal

pub returns : goal.returns
returns c = laid
