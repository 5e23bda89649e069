use Rattle.array_rows.proofs.RowsLemmas.{same_rows}
use Rattle.array_rows.proofs.rows.laws.same_cells_are_same_rows.Goals as goal

pub returns : goal.returns
returns c = same_rows
