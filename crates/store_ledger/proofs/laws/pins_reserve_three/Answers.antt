use Rattle.store_ledger.proofs.Pins.{pins_reserve_three}
use Rattle.store_ledger.proofs.laws.pins_reserve_three.Goals as goal

pub returns : goal.returns
returns c = pins_reserve_three
