use Rattle.store_sealing.proofs.StepsWorked.{removal_is_ready}
use Rattle.store_sealing.proofs.sealing.steps.a_commit_is_ready.Goals as goal

pub returns : goal.returns
returns c = removal_is_ready c.a_store_is_kept.ensures.kept
