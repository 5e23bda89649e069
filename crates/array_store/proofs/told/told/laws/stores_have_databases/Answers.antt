use Rattle.array_store.proofs.Databases.{stores_have_databases}
use Rattle.array_store.proofs.told.told.laws.stores_have_databases.Goals as goal

pub returns : goal.returns
returns g c = stores_have_databases g.D.Disk.moment
