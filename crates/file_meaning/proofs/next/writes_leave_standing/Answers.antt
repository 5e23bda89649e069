use Rattle.file_meaning.proofs.Both.{leave_standing}
use Rattle.file_meaning.proofs.next.writes_leave_standing.Goals as goal

pub returns : goal.returns
returns c = leave_standing
