use Rattle.page_chain.proofs.PageLaws.{chain_read}
use Rattle.page_chain.proofs.written.written_chain_is_read.Goals as goal

pub returns : goal.returns
returns c = chain_read
