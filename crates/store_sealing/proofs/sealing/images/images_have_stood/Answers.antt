use Rattle.store_sealing.proofs.Moments.{images_have_stood, records_have_stood, bases_have_stood}
use Rattle.store_sealing.proofs.sealing.images.images_have_stood.Goals as goal

pub returns : goal.returns
returns c =
    let writes = c.writes_leave_standing.ensures in
    let own = c.opened_files_stand.ensures.slots in
    let torn = c.opened_files_stand.ensures.roots in
    record {
      images = images_have_stood writes own torn;
      records = records_have_stood writes own torn c.laid_records_make_next.ensures;
      bases = bases_have_stood writes own torn c.laid_bases_make_next.ensures;
    }
