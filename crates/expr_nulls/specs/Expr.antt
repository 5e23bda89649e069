-- Expressions as contracts see them, without boxes.
use Rattle.std.specs.Prelude.{ℕ, ◌+◌}
use Rattle.cell_values.specs.declared.datum.Datum.{Datum}
use Rattle.cell_values.specs.declared.datum.CompareOp.{CompareOp}
use Rattle.expr_nulls.specs.declared.expr.ArithOp.{ArithOp}

-- a value; an attribute and a dimension by their places from 0; prefix `-`, `not`, `+ - * / %`, comparisons, `and`, `or`, `iif`,
-- `is_null`, `strlen`, `string`, `missing` and `missing_reason`
pub data Expr : Type 0 where
  literal : Datum → Expr
  attribute_value : ℕ → Expr
  dimension_value : ℕ → Expr
  minus : Expr → Expr
  denial : Expr → Expr
  calculation : ArithOp → Expr → Expr → Expr
  relation : CompareOp → Expr → Expr → Expr
  conjunction : Expr → Expr → Expr
  disjunction : Expr → Expr → Expr
  conditional : Expr → Expr → Expr → Expr
  null_test : Expr → Expr
  byte_length : Expr → Expr
  decimal_text : Expr → Expr
  coded_null : Expr → Expr
  null_code : Expr → Expr

-- how many operators, functions and leaves it has
abbrev pub expr_size : Expr → ℕ
expr_size (literal v) = 1
expr_size (attribute_value n) = 1
expr_size (dimension_value n) = 1
expr_size (minus a) = expr_size a + 1
expr_size (denial a) = expr_size a + 1
expr_size (calculation op a b) = expr_size a + expr_size b + 1
expr_size (relation op a b) = expr_size a + expr_size b + 1
expr_size (conjunction a b) = expr_size a + expr_size b + 1
expr_size (disjunction a b) = expr_size a + expr_size b + 1
expr_size (conditional test a b) = expr_size test + expr_size a + expr_size b + 1
expr_size (null_test a) = expr_size a + 1
expr_size (byte_length a) = expr_size a + 1
expr_size (decimal_text a) = expr_size a + 1
expr_size (coded_null a) = expr_size a + 1
expr_size (null_code a) = expr_size a + 1
