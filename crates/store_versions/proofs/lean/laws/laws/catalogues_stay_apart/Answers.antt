use Rattle.store_versions.proofs.Apart.{catalogues_stay_apart}
use Rattle.store_versions.proofs.lean.laws.laws.catalogues_stay_apart.Goals as goal

pub returns : goal.returns
returns c = catalogues_stay_apart
