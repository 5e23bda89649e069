use Rattle.test_disks.specs.Pairs.{IsPair}
use Rattle.test_disks.proofs.stores.pairs.create_all.Given as goal

abbrev pub invariant-loop-number : goal.invariant-loop-number
invariant-loop-number g l = IsPair l.pair
