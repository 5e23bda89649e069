use Rattle.store_state.proofs.Over.{directories_are_of_rows}
use Rattle.store_state.proofs.laid.costs.found_directories_are_of_their_rows.Goals as goal

pub returns : goal.returns
returns c = directories_are_of_rows c.found_directories_rise.ensures
