use Rattle.file_meaning.proofs.WorkedBase.{removed}
use Rattle.file_meaning.proofs.next.an_array_is_removed.Goals as goal

pub returns : goal.returns
returns c = removed
