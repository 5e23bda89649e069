-- The value of an expression at a cell: each form's rule of the table of values, over the values of its operands. An operand that
-- the rule does not look at has no influence.
use Rattle.std.specs.Prelude.{ℕ, ℤ, List, slice_get, slice_index_or, option_map, unwrap_or}
use Rattle.cell_values.specs.declared.datum.Datum.{Datum}
use Rattle.cell_values.specs.declared.datum.Datum.TheVariants.{Null, Int}
use Rattle.cell_values.specs.Table.{total, difference, product, quotient, remainder, negation, comparison, both_of}
use Rattle.cell_values.specs.Table.{either_of, opposite, chosen, nullness, text_length, text_of, missing_of, reason_of}
use Rattle.expr_nulls.specs.declared.expr.ArithOp.{ArithOp}
use Rattle.expr_nulls.specs.declared.expr.ArithOp.TheVariants.{Add, Sub, Mul, Div, Rem}
use Rattle.expr_nulls.specs.Expr.{Expr, literal, attribute_value, dimension_value, minus, denial, calculation, relation, conjunction}
use Rattle.expr_nulls.specs.Expr.{disjunction, conditional, null_test, byte_length, decimal_text, coded_null, null_code}

abbrev pub calculated : ArithOp → Datum → Datum → Datum
calculated Add = total
calculated Sub = difference
calculated Mul = product
calculated Div = quotient
calculated Rem = remainder

-- the number in a place of the coordinate
abbrev pub number_at : List ℤ → ℕ → Datum
number_at at place = unwrap_or (option_map Int (slice_get at place)) Null

-- of an expression, at a coordinate, over the values of its cell
abbrev pub value_of : Expr → List ℤ → List Datum → Datum
value_of (literal v) at values = v
value_of (attribute_value place) at values = slice_index_or values place Null
value_of (dimension_value place) at values = number_at at place
value_of (minus a) at values = negation (value_of a at values)
value_of (denial a) at values = opposite (value_of a at values)
value_of (calculation op a b) at values = calculated op (value_of a at values) (value_of b at values)
value_of (relation op a b) at values = comparison op (value_of a at values) (value_of b at values)
value_of (conjunction a b) at values = both_of (value_of a at values) (value_of b at values)
value_of (disjunction a b) at values = either_of (value_of a at values) (value_of b at values)
value_of (conditional test a b) at values = chosen (value_of test at values) (value_of a at values) (value_of b at values)
value_of (null_test a) at values = nullness (value_of a at values)
value_of (byte_length a) at values = text_length (value_of a at values)
value_of (decimal_text a) at values = text_of (value_of a at values)
value_of (coded_null a) at values = missing_of (value_of a at values)
value_of (null_code a) at values = reason_of (value_of a at values)
