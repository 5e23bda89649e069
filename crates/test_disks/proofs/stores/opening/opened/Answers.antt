use Rattle.test_disks.proofs.Holding.{new_has_no_pins}
use Rattle.test_disks.proofs.stores.opening.opened.Goals as goal

pub returns-in-Ok-clause-pins : goal.returns-in-Ok-clause-pins
returns-in-Ok-clause-pins g c = new_has_no_pins c.in-Ok.store.ledger c.in-Ok.ensures.new.entries
