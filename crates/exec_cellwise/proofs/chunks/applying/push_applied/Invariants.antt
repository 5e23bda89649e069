use Rattle.std.proofs.Common.{◌≡◌, ◌++◌, map, take}
use Rattle.expr_nulls.specs.ExprValue.{value_of}
use Rattle.exec_cellwise.proofs.chunks.applying.push_applied.Given as goal

abbrev pub invariant-loop-applied : goal.invariant-loop-applied
invariant-loop-applied l = l.values ≡ l.fn.values ++ map (λ applied. value_of applied.value l.at.items l.fn.values) (take l.applied-index l.more)
