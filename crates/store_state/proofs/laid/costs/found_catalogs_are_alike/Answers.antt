use Rattle.store_state.proofs.Over.{catalogs_are_alike}
use Rattle.store_state.proofs.laid.costs.found_catalogs_are_alike.Goals as goal

pub returns : goal.returns
returns c = catalogs_are_alike c.found_directories_rise.ensures
