use Rattle.store_state.proofs.Opening.{first_rows_are_in_order}
use Rattle.store_state.proofs.laid.rows.first_rows_are_in_order.Goals as goal

pub returns : goal.returns
returns c = first_rows_are_in_order
