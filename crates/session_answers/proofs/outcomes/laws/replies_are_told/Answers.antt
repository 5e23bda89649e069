use Rattle.session_answers.proofs.OutcomesTold.{said_replies_are_told, unread_replies_are_told}
use Rattle.session_answers.proofs.outcomes.laws.replies_are_told.Goals as goal

pub returns : goal.returns
returns g c = record { said = said_replies_are_told g.D.Disk.moment; unread = unread_replies_are_told g.D.Disk.moment }
