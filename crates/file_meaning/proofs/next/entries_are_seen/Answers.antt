use Rattle.file_meaning.proofs.Seen.{had_seen, later_unseen, replacing_unseen}
use Rattle.file_meaning.proofs.next.entries_are_seen.Goals as goal

pub returns : goal.returns
returns c = record { had = had_seen; later = later_unseen; replacing = replacing_unseen }
