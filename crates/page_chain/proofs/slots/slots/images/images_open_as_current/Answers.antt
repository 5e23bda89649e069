use Rattle.page_chain.proofs.Opening.{may_open}
use Rattle.page_chain.proofs.Settling.{settled}
use Rattle.page_chain.proofs.slots.slots.images.images_open_as_current.Goals as goal

pub returns : goal.returns
returns g c = λ seen image sound left. let still = sound.sure c.requires in settled c.args.slots.now image still.0 still.1 (may_open c.args.slots.now image (sound.images image left))
