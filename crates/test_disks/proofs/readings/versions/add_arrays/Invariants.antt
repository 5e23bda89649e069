use Rattle.store_ledger.specs.Ledger.{IsOpenPin}
use Rattle.test_disks.proofs.readings.versions.add_arrays.Given as goal

abbrev pub invariant-loop-entry : goal.invariant-loop-entry
invariant-loop-entry g l = IsOpenPin l.store.ledger l.pinned
