use Rattle.page_chain.proofs.LinkLaws.{chain_is_links}
use Rattle.page_chain.proofs.written.chain_is_its_links.Goals as goal

pub returns : goal.returns
returns c = chain_is_links
