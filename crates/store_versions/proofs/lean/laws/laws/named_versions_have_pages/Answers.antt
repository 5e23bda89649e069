use Rattle.store_versions.proofs.Agree.{named_versions_have_pages}
use Rattle.store_versions.proofs.lean.laws.laws.named_versions_have_pages.Goals as goal

pub returns : goal.returns
returns c = named_versions_have_pages
