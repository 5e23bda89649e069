use Rattle.store_sealing.proofs.Kept.{sealed_stores}
use Rattle.store_sealing.proofs.sealing.steps.sealed_stores_are_kept.Goals as goal

pub returns : goal.returns
returns g c = sealed_stores g.D.Disk.moment c.directories_follow.ensures.order
