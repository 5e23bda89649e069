use Rattle.store_ledger.specs.Ledger.{IsOpenPin}
use Rattle.test_disks.proofs.readings.versions.add_array.Given as goal

abbrev pub invariant-loop-version : goal.invariant-loop-version
invariant-loop-version g l = IsOpenPin l.store.ledger l.pinned
