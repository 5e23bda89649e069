use Rattle.store_sealing.proofs.Lies.{found_versions_lie}
use Rattle.store_sealing.proofs.sealing.images.found_versions_lie.Goals as goal

pub returns : goal.returns
returns c = found_versions_lie
