use Rattle.store_state.proofs.Reaps.{reaps_few}
use Rattle.store_state.proofs.state.laws.reaps_are_few.Goals as goal

pub returns : goal.returns
returns c = reaps_few
