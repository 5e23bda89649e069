use Rattle.session_answers.proofs.Noted.{failures_are_noted}
use Rattle.session_answers.proofs.outcomes.laws.failures_are_noted.Goals as goal

pub returns : goal.returns
returns g c = failures_are_noted g.D.Disk.moment
