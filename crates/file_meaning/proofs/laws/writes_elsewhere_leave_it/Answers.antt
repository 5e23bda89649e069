use Rattle.file_meaning.proofs.Elsewhere.{elsewhere}
use Rattle.file_meaning.proofs.laws.writes_elsewhere_leave_it.Goals as goal

pub returns : goal.returns
returns c = elsewhere
