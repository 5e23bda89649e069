use Rattle.store_state.proofs.Cores.{have_cores}
use Rattle.store_state.proofs.laid.laid.laid_directories_have_cores.Goals as goal

pub returns : goal.returns
returns c = have_cores
