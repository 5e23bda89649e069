use Rattle.commit_pages.proofs.Held.{versions_are_held}
use Rattle.commit_pages.proofs.pages.laws.new_versions_are_held.Goals as goal

pub returns : goal.returns
returns c = versions_are_held
