use Rattle.store_sealing.proofs.Stand.{images_stand}
use Rattle.store_sealing.proofs.sealing.images.images_stand.Goals as goal

pub returns : goal.returns
returns c = images_stand c.opened_files_stand.ensures.slots c.opened_files_stand.ensures.roots
