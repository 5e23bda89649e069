use Rattle.store_sealing.proofs.CellsWorked.{commit_is_written}
use Rattle.store_sealing.proofs.sealing.cells.a_commit_is_written.Goals as goal

pub returns : goal.returns
returns c = commit_is_written c.a_store_is_kept.ensures c.a_commit_is_ready.ensures
