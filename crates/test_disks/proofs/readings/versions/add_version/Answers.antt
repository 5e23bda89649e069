use Rattle.test_disks.proofs.Holding.{still_open}
use Rattle.test_disks.proofs.readings.versions.add_version.Goals as goal

pub returns-in-Ok : goal.returns-in-Ok
returns-in-Ok g c = still_open c.args.store.now.ledger c.cells.new.store.ledger c.args.pinned.now c.cells.ensures c.requires.open c.requires.stored

pub returns-in-Some : goal.returns-in-Some
returns-in-Some g c = still_open c.args.store.now.ledger c.cells.new.store.ledger c.args.pinned.now c.cells.ensures c.requires.open c.requires.stored
