use Rattle.file_meaning.proofs.Apart.{stored_apart}
use Rattle.file_meaning.proofs.laws.pages_lie_apart.Goals as goal

pub returns : goal.returns
returns c = stored_apart
