use Rattle.array_store.proofs.Stands.{new_stands}
use Rattle.array_store.proofs.store.store.Store.open.Goals as goal

pub returns-in-Ok-clause-stands : goal.returns-in-Ok-clause-stands
returns-in-Ok-clause-stands g c = new_stands g.D.Disk.moment c.args.limits c.in-Ok.parts c.in-Ok.ensures.at c.in-Ok.ensures.new
