use Rattle.store_sealing.proofs.Asked.{may_occur}
use Rattle.store_sealing.proofs.sealing.cells.both_may_occur.Goals as goal

pub returns : goal.returns
returns c = may_occur c.an_array_is_stored_again.ensures c.files_stand_for_one_database.ensures
