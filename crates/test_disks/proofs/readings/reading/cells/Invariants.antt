use Rattle.store_ledger.specs.Ledger.{IsOpenPin}
use Rattle.test_disks.specs.Holds.{LeavesAll}
use Rattle.test_disks.proofs.readings.reading.cells.Given as goal

abbrev pub invariant-loop-place : goal.invariant-loop-place
invariant-loop-place g l = record { open_pin : IsOpenPin l.store.ledger l.pinned; all : LeavesAll l.fn.store.ledger l.store.ledger }
