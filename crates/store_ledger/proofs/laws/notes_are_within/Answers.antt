use Rattle.store_ledger.proofs.Told.{notes_are_within}
use Rattle.store_ledger.proofs.laws.notes_are_within.Goals as goal

pub returns : goal.returns
returns c = notes_are_within
