use Rattle.test_disks.proofs.Holding.{tried_of, untried_of}
use Rattle.test_disks.proofs.stores.pins.pin_of.Goals as goal

pub returns-in-Pinned : goal.returns-in-Pinned
returns-in-Pinned c = λ ledger session h. (untried_of ledger session c.args.held.now c.in-Pinned.pinned c.in-Pinned.is h).pin

pub returns-in-Tried : goal.returns-in-Tried
returns-in-Tried c = λ ledger session h. tried_of ledger session c.args.held.now c.in-Tried.pinned c.in-Tried.is h
