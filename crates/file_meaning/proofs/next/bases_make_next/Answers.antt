use Rattle.file_meaning.proofs.Base.{bases_make_next}
use Rattle.file_meaning.proofs.next.bases_make_next.Goals as goal

pub returns : goal.returns
returns c = bases_make_next
