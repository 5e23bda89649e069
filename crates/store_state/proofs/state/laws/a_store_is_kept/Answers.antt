use Rattle.store_state.proofs.WorkedCells.{store_is_at}
use Rattle.store_state.proofs.state.laws.a_store_is_kept.Goals as goal

pub returns : goal.returns
returns c = store_is_at
