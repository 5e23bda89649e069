use Rattle.page_chain.proofs.OneRoot.{one_root}
use Rattle.page_chain.proofs.slots.slots.images.opens_as_one_root.Goals as goal

pub returns : goal.returns
returns c = one_root
