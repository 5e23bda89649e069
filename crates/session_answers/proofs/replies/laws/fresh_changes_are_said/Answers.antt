use Rattle.session_answers.proofs.FreshReplies.{fresh_changes_are_said}
use Rattle.session_answers.proofs.replies.laws.fresh_changes_are_said.Goals as goal

pub returns : goal.returns
returns g c = fresh_changes_are_said g.D.Disk.moment
