use Rattle.store_ledger.proofs.Pins.{notes_outlast}
use Rattle.store_ledger.proofs.laws.notes_outlast.Goals as goal

pub returns : goal.returns
returns c = notes_outlast
