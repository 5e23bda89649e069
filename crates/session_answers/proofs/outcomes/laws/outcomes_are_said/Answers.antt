use Rattle.session_answers.proofs.Behind.{pinned_outcomes_are_said}
use Rattle.session_answers.proofs.OutcomeLaws.{outcomes_are_said}
use Rattle.session_answers.proofs.outcomes.laws.outcomes_are_said.Goals as goal

pub returns : goal.returns
returns g c = record {
  said = outcomes_are_said g.D.Disk.moment;
  behind = pinned_outcomes_are_said g.D.Disk.moment;
}
