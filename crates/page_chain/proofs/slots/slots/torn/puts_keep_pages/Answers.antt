use Rattle.page_chain.proofs.Within.{torn_within}
use Rattle.page_chain.proofs.slots.slots.torn.puts_keep_pages.Goals as goal

pub returns : goal.returns
returns c = torn_within
