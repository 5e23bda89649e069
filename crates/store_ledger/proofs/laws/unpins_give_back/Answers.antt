use Rattle.store_ledger.proofs.Pins.{unpins_give_back}
use Rattle.store_ledger.proofs.laws.unpins_give_back.Goals as goal

pub returns : goal.returns
returns c = unpins_give_back
