use Rattle.file_meaning.proofs.FileStored.{is_stored_chunk}
use Rattle.file_meaning.proofs.laws.sound_rows_are_stored.Goals as goal

pub returns : goal.returns
returns c = is_stored_chunk
