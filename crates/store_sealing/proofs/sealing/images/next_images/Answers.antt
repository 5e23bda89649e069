use Rattle.store_sealing.proofs.ImageLaws.{next_images}
use Rattle.store_sealing.proofs.sealing.images.next_images.Goals as goal

pub returns : goal.returns
returns c = next_images c.writes_leave_standing.ensures c.opened_files_stand.ensures.slots
