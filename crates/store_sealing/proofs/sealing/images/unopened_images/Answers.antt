use Rattle.store_sealing.proofs.ImageLaws.{untouched_images, unopened_images}
use Rattle.store_sealing.proofs.sealing.images.unopened_images.Goals as goal

pub returns : goal.returns
returns c = record {
  untouched = untouched_images c.writes_leave_standing.ensures c.opened_files_stand.ensures.slots c.opened_files_stand.ensures.roots;
  unopened = unopened_images c.writes_leave_standing.ensures c.opened_files_stand.ensures.slots;
}
