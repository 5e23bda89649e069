use Rattle.commit_pages.proofs.Logs.{logs}
use Rattle.commit_pages.proofs.counting.laws.logs_come_round.Goals as goal

pub returns : goal.returns
returns c = logs
