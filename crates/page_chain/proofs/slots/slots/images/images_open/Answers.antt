use Rattle.page_chain.proofs.Opening.{may_open}
use Rattle.page_chain.proofs.slots.slots.images.images_open.Goals as goal

pub returns : goal.returns
returns g c = λ seen image sound left. may_open c.args.slots.now image (sound.images image left)
