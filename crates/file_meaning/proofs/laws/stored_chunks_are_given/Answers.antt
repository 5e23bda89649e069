use Rattle.file_meaning.proofs.FileStored.{stored_are_given, given_are_stored}
use Rattle.file_meaning.proofs.laws.stored_chunks_are_given.Goals as goal

pub returns : goal.returns
returns c = record { given = stored_are_given; stored = given_are_stored }
