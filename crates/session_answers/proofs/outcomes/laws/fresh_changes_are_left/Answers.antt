use Rattle.session_answers.proofs.Freshly.{fresh_changes_are_left_since}
use Rattle.session_answers.proofs.outcomes.laws.fresh_changes_are_left.Goals as goal

pub returns : goal.returns
returns g c = fresh_changes_are_left_since _
