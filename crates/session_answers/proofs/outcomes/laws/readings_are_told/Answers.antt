use Rattle.session_answers.proofs.Changing.{read_changes_may_be_committed}
use Rattle.session_answers.proofs.Under.{failed_replies_are_told, read_replies_are_told}
use Rattle.session_answers.proofs.outcomes.laws.readings_are_told.Goals as goal

pub returns : goal.returns
returns g c = record {
  read = read_replies_are_told g.D.Disk.moment;
  failed = failed_replies_are_told g.D.Disk.moment;
  changes = read_changes_may_be_committed g.D.Disk.moment;
}
