use Rattle.array_store.proofs.Left.{names_stay, pages_stay, rows_stay, plans_stay}
use Rattle.array_store.proofs.changes.laws.laws.left_arrays_stay.Goals as goal

pub returns-clause-names : goal.returns-clause-names
returns-clause-names c = names_stay

pub returns-clause-pages : goal.returns-clause-pages
returns-clause-pages c = pages_stay

pub returns-clause-rows : goal.returns-clause-rows
returns-clause-rows c = rows_stay

pub returns-clause-plans : goal.returns-clause-plans
returns-clause-plans c = plans_stay
