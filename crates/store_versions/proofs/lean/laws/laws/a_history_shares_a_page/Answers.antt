use Rattle.store_versions.proofs.SharedList.{shared_is_legal, shared_pages}
use Rattle.store_versions.proofs.lean.laws.laws.a_history_shares_a_page.Goals as goal

pub returns : goal.returns
returns c = record { legal = shared_is_legal; pages = shared_pages }
