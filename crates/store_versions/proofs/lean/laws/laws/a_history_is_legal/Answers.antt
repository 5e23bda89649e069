use Rattle.store_versions.proofs.WorkedList.{legal_is, stores_arrays, apart_is, own_is, places_are, free_is, free_on_is}
use Rattle.event_core.proofs.Worked.{base_is}
use Rattle.store_versions.proofs.lean.laws.laws.a_history_is_legal.Goals as goal

pub returns : goal.returns
returns c = record { base = base_is; legal = legal_is; stores = stores_arrays; apart = apart_is; own = own_is; places = places_are; free = free_is; free_later = free_on_is }
