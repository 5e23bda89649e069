use Rattle.store_state.proofs.CostsWorked.{insert_is_over}
use Rattle.store_state.proofs.laid.costs.an_insert_is_over_its_file.Goals as goal

pub returns : goal.returns
returns c = insert_is_over
