use Rattle.commit_pages.proofs.Legal.{legal}
use Rattle.commit_pages.proofs.counting.laws.a_history_is_legal_at_its_costs.Goals as goal

pub returns : goal.returns
returns c = legal
