use Rattle.store_sealing.proofs.Asked.{are_asked}
use Rattle.store_sealing.proofs.sealing.cells.chunks_are_asked.Goals as goal

pub returns : goal.returns
returns c = are_asked c.an_array_is_stored_again.ensures c.files_stand_for_one_database.ensures c.sound_rows_are_stored.ensures
