use Rattle.std.proofs.Common.{◌≡◌, length}
use Rattle.array_rows.specs.RowsIn.{AreLong}
use Rattle.array_rows.proofs.columns.filling.empty_columns.Given as goal

abbrev pub invariant-loop-k : goal.invariant-loop-k
invariant-loop-k l = record { width : length l.made.items ≡ l.k; empty : AreLong 0 l.made.items }
