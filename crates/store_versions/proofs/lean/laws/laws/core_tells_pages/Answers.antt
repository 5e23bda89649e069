use Rattle.store_versions.proofs.Cores.{core_tells_pages}
use Rattle.store_versions.proofs.lean.laws.laws.core_tells_pages.Goals as goal

pub returns : goal.returns
returns c = core_tells_pages
