use Rattle.commit_pages.proofs.Sharing.{sharing}
use Rattle.commit_pages.proofs.counting.laws.versions_share_pages_legally.Goals as goal

pub returns : goal.returns
returns c = sharing
