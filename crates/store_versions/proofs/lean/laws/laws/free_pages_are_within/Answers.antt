use Rattle.store_versions.proofs.Free.{free_pages_are_within}
use Rattle.store_versions.proofs.lean.laws.laws.free_pages_are_within.Goals as goal

pub returns : goal.returns
returns c = free_pages_are_within
