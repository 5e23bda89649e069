use Rattle.store_state.proofs.First.{first_differ}
use Rattle.store_state.proofs.laid.given.free_pages_differ.Goals as goal

pub returns : goal.returns
returns c = first_differ
