use Rattle.array_store.proofs.Telling.{stores_are_told}
use Rattle.array_store.proofs.told.told.laws.stores_are_told.Goals as goal

pub returns : goal.returns
returns g c = stores_are_told _
