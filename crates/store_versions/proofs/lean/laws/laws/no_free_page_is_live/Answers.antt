use Rattle.store_versions.proofs.Free.{no_free_page_is_live}
use Rattle.store_versions.proofs.lean.laws.laws.no_free_page_is_live.Goals as goal

pub returns : goal.returns
returns c = no_free_page_is_live
