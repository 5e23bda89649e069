use Rattle.statement_replies.proofs.Standing.{stand}
use Rattle.statement_replies.proofs.replies.laws.listed_arrays_stand.Goals as goal

pub returns : goal.returns
returns c = stand
