-- A store, and what two sessions have of it.
use Rattle.test_disks.specs.Holds.{IsHold}
use Rattle.test_disks.specs.declared.stores.pairs.SessionPair.{SessionPair}

pub record IsPair (pair : SessionPair) : Type 0 where
  pub first : IsHold pair.store.ledger 0 pair.first
  pub second : IsHold pair.store.ledger 1 pair.second
