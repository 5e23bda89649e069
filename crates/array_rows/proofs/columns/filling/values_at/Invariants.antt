use Rattle.std.proofs.Common.{◌≡◌, take}
use Rattle.array_rows.specs.RowsIn.{row_at}
use Rattle.array_rows.proofs.columns.filling.values_at.Given as goal

abbrev pub invariant-loop-column : goal.invariant-loop-column
invariant-loop-column l = l.values ≡ row_at l.k (take l.column-index l.columns)
