use Rattle.session_answers.proofs.ActsJoined.{acts_join}
use Rattle.session_answers.proofs.Staying.{replies_stay}
use Rattle.session_answers.proofs.replies.laws.replies_stay.Goals as goal

pub returns : goal.returns
returns g c = record { acts = acts_join; stay = replies_stay g.D.Disk.moment }
