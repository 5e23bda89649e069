use Rattle.store_opening.proofs.NamedLaws.{directories_are_counted}
use Rattle.store_opening.proofs.bases.laws.directories_are_counted.Goals as goal

pub returns : goal.returns
returns c = directories_are_counted
