use Rattle.store_versions.proofs.Given.{later_directories_are_free}
use Rattle.store_versions.proofs.laws.later_directories_are_free.Goals as goal

pub returns : goal.returns
returns c = later_directories_are_free
