use Rattle.store_state.proofs.RowsNewest.{newest_are_last}
use Rattle.store_state.proofs.laid.rows.newest_are_last.Goals as goal

pub returns : goal.returns
returns c = newest_are_last
