use Rattle.file_meaning.proofs.FileStored.{beside_stay}
use Rattle.file_meaning.proofs.laws.chunks_beside_stay.Goals as goal

pub returns : goal.returns
returns c = beside_stay
