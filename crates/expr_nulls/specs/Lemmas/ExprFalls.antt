-- Each operand of an expression is smaller than the expression.
use Rattle.std.specs.Prelude.{◌≤◌, max}
use Rattle.std.proofs.Common.{arith}
use Rattle.expr_nulls.specs.Expr.{expr_size}
use Rattle.expr_nulls.specs.declared.expr.ExprNode.{ExprNode}
use Rattle.expr_nulls.specs.declared.expr.ExprNode.TheVariants.{Lit}
use Rattle.expr_nulls.specs.declared.expr.TypedExpr.TheDeep.{deep-ExprNode}
use Rattle.expr_nulls.specs.Inner.ExprView.{expr_of}

pub depth_le-size : (n : ExprNode) → max (deep-ExprNode n) 0 ≤ expr_size (expr_of n)
depth_le-size (Lit v) = omega arith
depth_le-size _ = omega arith
