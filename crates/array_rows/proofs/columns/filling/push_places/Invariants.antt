use Rattle.std.proofs.Common.{◌≡◌, ◌+◌, ◌++◌, take, length}
use Rattle.array_rows.specs.RowsIn.{pushed, row_at}
use Rattle.array_rows.proofs.columns.filling.push_places.Given as goal

abbrev pub invariant-loop-k : goal.invariant-loop-k
invariant-loop-k l = l.columns.items ≡ pushed l.fn.columns.items (take l.k (row_at l.i l.left ++ row_at l.j l.right))

abbrev pub invariant-loop-k-2 : goal.invariant-loop-k-2
invariant-loop-k-2 l = l.columns.items ≡ pushed l.fn.columns.items (take (length l.left + l.k) (row_at l.i l.left ++ row_at l.j l.right))
