-- The number that an expression is at a coordinate, where values that are no number are not looked at.
use Rattle.std.specs.Prelude.{◌≡◌, ℤ, Option, Some, None, slice_get, ⊤}
use Rattle.cell_values.specs.declared.datum.Datum.{Datum}
use Rattle.cell_values.specs.declared.datum.Datum.TheVariants.{Int}
use Rattle.array_rows.specs.Rows.{Coordinate}
use Rattle.expr_nulls.specs.Expr.{Expr, literal, dimension_value, calculation}
use Rattle.expr_nulls.specs.ExprValue.{calculated}

abbrev pub number_in : Datum → Option ℤ
number_in (Int n) = Some n
number_in v = None

abbrev pub on_numbers : (ℤ → ℤ → Option ℤ) → Option ℤ → Option ℤ → Option ℤ
on_numbers f (Some a) (Some b) = f a b
on_numbers f a b = None

abbrev pub number_of : Expr → Coordinate → Option ℤ
number_of (literal v) c = number_in v
number_of (dimension_value place) c = slice_get c place
number_of (calculation op a b) c = on_numbers (λ x y. number_in (calculated op (Int x) (Int y))) (number_of a c) (number_of b c)
number_of e c = None

-- a number that was found
abbrev pub IsNumber : Option ℤ → Datum → Type 0
IsNumber (Some n) v = v ≡ Int n
IsNumber None v = ⊤
