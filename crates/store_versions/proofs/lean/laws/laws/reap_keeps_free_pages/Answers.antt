use Rattle.store_versions.proofs.Free.{reap_keeps_free_pages}
use Rattle.store_versions.proofs.lean.laws.laws.reap_keeps_free_pages.Goals as goal

pub returns : goal.returns
returns c = reap_keeps_free_pages
