-- What two sessions have of a store.
use Rattle.std.proofs.Common.{◌≡◌, sym, subst}
use Rattle.store_state.specs.declared.state.parts.StoreParts.{StoreParts}
use Rattle.test_quiet.specs.declared.quiet_disk.QuietDisk.{QuietDisk}
use Rattle.test_disks.specs.declared.stores.pairs.SessionPair.{SessionPair}
use Rattle.test_disks.specs.Pairs.{IsPair}

-- they have it of a store that stays the same
pub pair_outlasts : (pair : SessionPair) (new : StoreParts QuietDisk) → new ≡ pair.store → IsPair pair → IsPair (record pair { store = new })
pair_outlasts pair new e p = subst (λ (store : StoreParts QuietDisk). IsPair (record pair { store = store })) (sym e) (record { first = p.first; second = p.second })
