use Rattle.plan_changes.proofs.NamesOf.{names_depend_on_no_row}
use Rattle.plan_changes.proofs.laws.names_depend_on_no_row.Goals as goal

pub returns : goal.returns
returns c = names_depend_on_no_row
