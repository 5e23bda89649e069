use Rattle.store_state.proofs.Over.{files_are_over}
use Rattle.store_state.proofs.laid.costs.found_files_are_over.Goals as goal

pub returns : goal.returns
returns c = files_are_over c.found_directories_rise.ensures
