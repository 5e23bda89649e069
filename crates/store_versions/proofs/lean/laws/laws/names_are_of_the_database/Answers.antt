use Rattle.store_versions.proofs.Cells.{names_are_of_the_database}
use Rattle.store_versions.proofs.lean.laws.laws.names_are_of_the_database.Goals as goal

pub returns : goal.returns
returns c = names_are_of_the_database c.names_depend_on_no_row.ensures
