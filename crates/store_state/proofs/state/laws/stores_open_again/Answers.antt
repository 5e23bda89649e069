use Rattle.store_state.proofs.Again.{open_again}
use Rattle.store_state.proofs.state.laws.stores_open_again.Goals as goal

pub returns : goal.returns
returns c = open_again
