use Rattle.store_sealing.proofs.ImagesWorked.{store_may_be_written}
use Rattle.store_sealing.proofs.sealing.images.a_store_may_be_written.Goals as goal

pub returns : goal.returns
returns c = store_may_be_written c.a_store_is_kept.ensures
