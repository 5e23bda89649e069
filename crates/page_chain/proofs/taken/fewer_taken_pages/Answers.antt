use Rattle.page_chain.proofs.TakenPages.{fewer_taken}
use Rattle.page_chain.proofs.taken.fewer_taken_pages.Goals as goal

pub returns : goal.returns
returns c = fewer_taken
