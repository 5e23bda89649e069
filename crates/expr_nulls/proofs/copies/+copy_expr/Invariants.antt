use Rattle.std.proofs.Common.{◌+◌, ◌*◌}
use Rattle.expr_nulls.specs.Expr.{expr_size}
use Rattle.expr_nulls.specs.Inner.ExprView.{expr_of}
use Rattle.expr_nulls.proofs.copies.+copy_expr.Given as goal

abbrev pub decreases-copy_expr : goal.decreases-copy_expr
decreases-copy_expr l = 5 * expr_size l.expr.now + 1

abbrev pub decreases-copy_node : goal.decreases-copy_node
decreases-copy_node l = 5 * expr_size (expr_of l.node.now)

abbrev pub decreases-copy_operand : goal.decreases-copy_operand
decreases-copy_operand l = 5 * expr_size l.operand.now.value + 2

abbrev pub decreases-copy_two : goal.decreases-copy_two
decreases-copy_two l = 5 * (expr_size l.a.now.value + expr_size l.b.now.value) + 3

abbrev pub decreases-copy_iif : goal.decreases-copy_iif
decreases-copy_iif l = 5 * (expr_size l.test.now.value + expr_size l.a.now.value + expr_size l.b.now.value) + 4
