use Rattle.store_state.proofs.Again.{pinned_cells}
use Rattle.store_state.proofs.state.laws.pinned_cells_stay.Goals as goal

pub returns : goal.returns
returns g c = pinned_cells _
