use Rattle.store_versions.proofs.Free.{no_fresh_page_was_live}
use Rattle.store_versions.proofs.lean.laws.laws.no_fresh_page_was_live.Goals as goal

pub returns : goal.returns
returns c = no_fresh_page_was_live
