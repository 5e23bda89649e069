use Rattle.store_ledger.proofs.Pins.{open_pins_outlast}
use Rattle.store_ledger.proofs.laws.open_pins_outlast.Goals as goal

pub returns : goal.returns
returns c = open_pins_outlast
