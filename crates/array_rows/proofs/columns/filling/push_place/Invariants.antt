use Rattle.std.proofs.Common.{◌≡◌, take}
use Rattle.array_rows.specs.RowsIn.{pushed, row_at}
use Rattle.array_rows.proofs.columns.filling.push_place.Given as goal

abbrev pub invariant-loop-i : goal.invariant-loop-i
invariant-loop-i l = l.columns.items ≡ pushed l.fn.columns.items (take l.i (row_at l.k l.from))
