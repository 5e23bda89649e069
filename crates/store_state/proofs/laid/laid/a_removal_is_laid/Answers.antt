use Rattle.store_state.proofs.LaidWorked.{removal_is_laid}
use Rattle.store_state.proofs.laid.laid.a_removal_is_laid.Goals as goal

pub returns : goal.returns
returns c = removal_is_laid c.free_pages_turn.ensures c.an_array_is_removed.ensures
