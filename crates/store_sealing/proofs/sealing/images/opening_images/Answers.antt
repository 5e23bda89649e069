use Rattle.store_sealing.proofs.ImageLaws.{opening_records, opening_roots}
use Rattle.store_sealing.proofs.sealing.images.opening_images.Goals as goal

pub returns : goal.returns
returns c = record {
  records = opening_records c.writes_leave_standing.ensures c.opened_files_stand.ensures.slots;
  roots = opening_roots c.writes_leave_standing.ensures c.opened_files_stand.ensures.slots c.opened_files_stand.ensures.roots;
}
