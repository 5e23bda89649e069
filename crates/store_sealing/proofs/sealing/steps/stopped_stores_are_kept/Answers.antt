use Rattle.store_sealing.proofs.StepsStopped.{stopped_stores}
use Rattle.store_sealing.proofs.sealing.steps.stopped_stores_are_kept.Goals as goal

pub returns : goal.returns
returns g c = stopped_stores g.D.Disk.moment
