use Rattle.store_versions.proofs.Legal.{ordered_versions_have_pages}
use Rattle.store_versions.proofs.lean.laws.laws.ordered_versions_have_pages.Goals as goal

pub returns : goal.returns
returns c = ordered_versions_have_pages
