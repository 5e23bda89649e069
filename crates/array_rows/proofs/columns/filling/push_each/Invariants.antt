use Rattle.std.proofs.Common.{◌≡◌, take}
use Rattle.array_rows.specs.RowsIn.{pushed}
use Rattle.array_rows.proofs.columns.filling.push_each.Given as goal

abbrev pub invariant-loop-k : goal.invariant-loop-k
invariant-loop-k l = l.columns.items ≡ pushed l.fn.columns.items (take l.k l.values)
