-- What an expression reads as.
use Rattle.expr_nulls.specs.Expr.{Expr, literal, attribute_value, dimension_value, minus, denial, calculation, relation, conjunction}
use Rattle.expr_nulls.specs.Expr.{disjunction, conditional, null_test, byte_length, decimal_text, coded_null, null_code}
use Rattle.expr_nulls.specs.declared.expr.ExprNode.{ExprNode}
use Rattle.expr_nulls.specs.declared.expr.ExprNode.TheVariants.{Lit, Attr, Dim, Neg, Not, Arith, Compare, And, Or, Iif, IsNull, StrLen, ToText, Missing, Reason}

abbrev pub expr_of : ExprNode → Expr
expr_of (Lit v) = literal v
expr_of (Attr n) = attribute_value n
expr_of (Dim n) = dimension_value n
expr_of (Neg a) = minus a.value
expr_of (Not a) = denial a.value
expr_of (Arith op a b) = calculation op a.value b.value
expr_of (Compare op a b) = relation op a.value b.value
expr_of (And a b) = conjunction a.value b.value
expr_of (Or a b) = disjunction a.value b.value
expr_of (Iif test a b) = conditional test.value a.value b.value
expr_of (IsNull a) = null_test a.value
expr_of (StrLen a) = byte_length a.value
expr_of (ToText a) = decimal_text a.value
expr_of (Missing a) = coded_null a.value
expr_of (Reason a) = null_code a.value
