use Rattle.store_ledger.proofs.Tried.{tried_gives_two_back}
use Rattle.store_ledger.proofs.laws.tried_gives_two_back.Goals as goal

pub returns : goal.returns
returns c = tried_gives_two_back
