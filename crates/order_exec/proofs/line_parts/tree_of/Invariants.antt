use Rattle.order_exec.proofs.TreeLaws.{Found}
use Rattle.order_exec.proofs.line_parts.tree_of.Given as goal

abbrev pub invariant-loop-line : goal.invariant-loop-line
invariant-loop-line l = Found l.lines l.line-index l.tree
