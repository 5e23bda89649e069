use Rattle.store_state.proofs.GivenPages.{records_may_use, bases_may_use}
use Rattle.store_state.proofs.laid.given.commits_may_use_free_pages.Goals as goal

pub returns : goal.returns
returns c = record { records = records_may_use; bases = bases_may_use }
