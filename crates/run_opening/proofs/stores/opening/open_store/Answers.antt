use Rattle.run_opening.proofs.Opened.{began_over}
use Rattle.run_opening.proofs.stores.opening.open_store.Goals as goal

pub returns-in-Ok-clause-began : goal.returns-in-Ok-clause-began
returns-in-Ok-clause-began g c = began_over g.D.Disk.moment c.args.disk c.args.limits c.in-Ok.store c.in-Ok.ensures.new c.in-Ok.ensures.opened c.in-Ok.ensures.told
