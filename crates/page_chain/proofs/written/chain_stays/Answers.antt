use Rattle.page_chain.proofs.PageLaws.{chain_kept}
use Rattle.page_chain.proofs.written.chain_stays.Goals as goal

pub returns : goal.returns
returns c = chain_kept
