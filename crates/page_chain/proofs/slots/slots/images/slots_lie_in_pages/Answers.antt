use Rattle.page_chain.proofs.Lies.{has_target}
use Rattle.page_chain.proofs.slots.slots.images.slots_lie_in_pages.Goals as goal

pub returns : goal.returns
returns g c = λ seen image sound left. has_target c.args.slots.now image c.requires (sound.images image left)
