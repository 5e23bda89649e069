use Rattle.file_meaning.proofs.WorkedNext.{stored_again}
use Rattle.file_meaning.proofs.next.an_array_is_stored_again.Goals as goal

pub returns : goal.returns
returns c = stored_again
