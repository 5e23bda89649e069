use Rattle.store_state.proofs.RowsPages.{pages_follow}
use Rattle.store_state.proofs.laid.rows.pages_follow.Goals as goal

pub returns : goal.returns
returns c = pages_follow
