-- What is found of an expression as a number is its value.
use Rattle.std.proofs.Common.{◌≡◌, ℤ, List, [], ◌∷◌, Option, Some, None, refl, sym, ap, ◌∙◌, subst, w64, FitsSigned, arith}
use Rattle.std.specs.Option.{SomeIff}
use Rattle.std.specs.Prelude.{slice_get, option_map, unwrap_or}
use Rattle.cell_values.specs.declared.datum.Datum.{Datum}
use Rattle.cell_values.specs.declared.datum.Datum.TheVariants.{Null, Missing, Int, Text, Truth, Bad}
use Rattle.cell_values.specs.Table.{exact}
use Rattle.cell_values.specs.declared.schema.Attribute.{Attribute}
use Rattle.array_rows.specs.Rows.{Coordinate}
use Rattle.expr_nulls.specs.Expr.{Expr, literal, attribute_value, dimension_value, minus, denial, calculation, relation, conjunction, disjunction, conditional, null_test, byte_length, decimal_text, coded_null, null_code}
use Rattle.expr_nulls.specs.ExprValue.{value_of, calculated}
use Rattle.logical_plan.specs.CellOps.{fit_values}
use Rattle.exec_cellwise.specs.Inner.Quickly.{IsNumber, number_in, number_of, on_numbers}

-- a number that is exact
pub exactly : (o : Option ℤ) (x : ℤ) → SomeIff o (FitsSigned w64 x) x → o ≡ number_in (exact x)
exactly o x found = grind arith

value_found : (v : Datum) → IsNumber (number_in v) v
value_found (Int n) = refl
value_found (Truth b) = tt
value_found Null = tt
value_found (Missing code) = tt
value_found (Text s) = tt
value_found (Bad kind) = tt

place_found : (o : Option ℤ) → IsNumber o (unwrap_or (option_map Int o) Null)
place_found (Some n) = refl
place_found None = tt

both_found : (f : Datum → Datum → Datum) (s t : Option ℤ) (v w : Datum) → IsNumber s v → IsNumber t w → IsNumber (on_numbers (λ x y. number_in (f (Int x) (Int y))) s t) (f v w)
both_found f (Some a) (Some b) v w p q = subst (IsNumber (number_in (f (Int a) (Int b)))) (ap (f (Int a)) (sym q) ∙ ap (λ x. f x w) (sym p)) (value_found (f (Int a) (Int b)))
both_found f (Some a) None v w p q = tt
both_found f None t v w p q = tt

number_is_value : (e : Expr) (c : Coordinate) → IsNumber (number_of e c) (value_of e c [])
number_is_value (literal v) c = value_found v
number_is_value (attribute_value place) c = tt
number_is_value (dimension_value place) c = place_found (slice_get c place)
number_is_value (minus a) c = tt
number_is_value (denial a) c = tt
number_is_value (calculation op a b) c = both_found (calculated op) _ _ _ _ (number_is_value a c) (number_is_value b c)
number_is_value (relation op a b) c = tt
number_is_value (conjunction a b) c = tt
number_is_value (disjunction a b) c = tt
number_is_value (conditional test a b) c = tt
number_is_value (null_test a) c = tt
number_is_value (byte_length a) c = tt
number_is_value (decimal_text a) c = tt
number_is_value (coded_null a) c = tt
number_is_value (null_code a) c = tt

fits : (attributes : List Attribute) (n : ℤ) → Int n ∷ [] ≡ fit_values attributes (Int n ∷ [])
fits [] n = refl
fits (a ∷ []) n = refl
fits (a ∷ b ∷ more) n = refl

-- a number that is found fits each attribute
pub number_fits : (attributes : List Attribute) (e : Expr) (c : Coordinate) (found : Option ℤ) (n : ℤ) → found ≡ number_of e c → found ≡ Some n → Int n ∷ [] ≡ fit_values attributes (value_of e c [] ∷ [])
number_fits attributes e c found n is some =
    fits attributes n ∙ ap (λ (v : Datum). fit_values attributes (v ∷ [])) (sym (subst (λ (o : Option ℤ). IsNumber o (value_of e c [])) (sym is ∙ some) (number_is_value e c)))
