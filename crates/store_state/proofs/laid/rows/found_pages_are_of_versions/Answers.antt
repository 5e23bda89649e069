use Rattle.store_state.proofs.RowsPages.{found_pages_are_of_versions}
use Rattle.store_state.proofs.laid.rows.found_pages_are_of_versions.Goals as goal

pub returns : goal.returns
returns c = found_pages_are_of_versions
