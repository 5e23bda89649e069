use Rattle.store_state.proofs.Used.{records_have, bases_have}
use Rattle.store_state.proofs.laid.laid.laid_commits_have_their_pages.Goals as goal

pub returns : goal.returns
returns c = record { records = records_have; bases = bases_have }
