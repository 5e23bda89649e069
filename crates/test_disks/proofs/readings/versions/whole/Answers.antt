use Rattle.test_disks.proofs.Holding.{pin_is_stored}
use Rattle.test_disks.proofs.readings.versions.whole.Goals as goal

pub add_arrays-added-requires-clause-stored : goal.add_arrays-added-requires-clause-stored
add_arrays-added-requires-clause-stored g c = pin_is_stored c.args.store.now.ledger 0 c.names.result.now c.in-Ok.pinned c.names.ensures.names c.names.ensures.stored c.in-Ok.ensures.pinned
