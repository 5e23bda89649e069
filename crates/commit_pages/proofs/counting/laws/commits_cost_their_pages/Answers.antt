use Rattle.commit_pages.proofs.CountingWorked.{commits}
use Rattle.commit_pages.proofs.counting.laws.commits_cost_their_pages.Goals as goal

pub returns : goal.returns
returns c = commits
