use Rattle.store_versions.proofs.Pinned.{pinned_pages_stay_live}
use Rattle.store_versions.proofs.lean.laws.laws.pinned_pages_stay_live.Goals as goal

pub returns : goal.returns
returns c = pinned_pages_stay_live
