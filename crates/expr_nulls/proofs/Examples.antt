-- Expressions, and their values at some cells.
use Rattle.std.proofs.Common.{◌≡◌, refl, ℕ, pos, negsuc, Bool, true, false, List, [], ◌∷◌, map, codes}
use Rattle.cell_values.specs.declared.datum.Datum.{Datum}
use Rattle.cell_values.specs.declared.datum.Datum.TheVariants.{Null, Missing, Int, Text, Truth, Bad}
use Rattle.cell_values.specs.declared.datum.FaultKind.TheVariants.{Overflow, DivideByZero, OutOfBounds}
use Rattle.cell_values.specs.declared.datum.CompareOp.TheVariants.{Equal, Less, More}
use Rattle.cell_values.specs.declared.schema.Kind.TheVariants.{Int64, Str, Bool as Truths}
use Rattle.expr_nulls.specs.declared.expr.ArithOp.TheVariants.{Add, Sub, Div, Rem}
use Rattle.expr_nulls.specs.Expr.{Expr, literal, attribute_value, dimension_value, minus, denial, calculation, relation, conjunction, disjunction, conditional, null_test, byte_length, decimal_text, coded_null, null_code}
use Rattle.expr_nulls.specs.ExprValue.{value_of}
use Rattle.expr_nulls.specs.Typing.{has_kind}

abbrev number : ℕ → Expr
number n = literal (Int (pos n))

abbrev reason : ℕ → Expr
reason code = literal (Missing code)

-- the attribute `v`, and the dimension `i`
abbrev v : Expr
v = attribute_value 0

abbrev i : Expr
i = dimension_value 0

-- the values over one attribute with these values, at 0
abbrev over : List Datum → Expr → List Datum
over values e = map (λ value. value_of e (pos 0 ∷ []) (value ∷ [])) values

-- the values at these numbers of one dimension
abbrev places : List ℕ → Expr → List Datum
places at e = map (λ n. value_of e (pos n ∷ []) []) at

-- `v>1 or true`
truth_decides_or : over (Null ∷ Int (pos 0) ∷ []) (disjunction (relation More v (number 1)) (literal (Truth true))) ≡ Truth true ∷ Truth true ∷ []
truth_decides_or = refl

-- `iif(v=0, 1, 10/v)`
branch_not_taken : over (Null ∷ Int (pos 0) ∷ []) (conditional (relation Equal v (number 0)) (number 1) (calculation Div (number 10) v)) ≡ Null ∷ Int (pos 1) ∷ []
branch_not_taken = refl

-- `iif(i=0, 7, 6/i)`
branch_by_place : places (0 ∷ 1 ∷ 2 ∷ []) (conditional (relation Equal i (number 0)) (number 7) (calculation Div (number 6) i)) ≡ Int (pos 7) ∷ Int (pos 6) ∷ Int (pos 3) ∷ []
branch_by_place = refl

-- `i=0 or 1/i=1`
right_not_looked_at : places (0 ∷ 1 ∷ []) (disjunction (relation Equal i (number 0)) (relation Equal (calculation Div (number 1) i) (number 1))) ≡ Truth true ∷ Truth true ∷ []
right_not_looked_at = refl

-- `1/i=1 or i=0`
left_is_looked_at : places (0 ∷ []) (disjunction (relation Equal (calculation Div (number 1) i) (number 1)) (relation Equal i (number 0))) ≡ Bad DivideByZero ∷ []
left_is_looked_at = refl

-- `-9223372036854775807-1`
abbrev least : Expr
least = calculation Sub (minus (number 9223372036854775807)) (number 1)

least_by_minus_one : places (0 ∷ []) (calculation Rem least (minus (number 1))) ≡ Int (pos 0) ∷ []
least_by_minus_one = refl

least_over_minus_one : places (0 ∷ []) (calculation Div least (minus (number 1))) ≡ Bad Overflow ∷ []
least_over_minus_one = refl

-- nulls keep their codes, the left operand's first: `?5=v`, `v=?3`, `-v`, `v/0+1`, `iif(v=4,1,2)`
abbrev nulls : List Datum
nulls = Missing 7 ∷ Null ∷ Int (pos 4) ∷ []

left_code : over nulls (relation Equal (reason 5) v) ≡ Missing 5 ∷ Missing 5 ∷ Missing 5 ∷ []
left_code = refl

right_code : over nulls (relation Equal v (reason 3)) ≡ Missing 7 ∷ Null ∷ Missing 3 ∷ []
right_code = refl

code_of_minus : over nulls (minus v) ≡ Missing 7 ∷ Null ∷ Int (negsuc 3) ∷ []
code_of_minus = refl

code_before_zero : over nulls (calculation Add (calculation Div v (number 0)) (number 1)) ≡ Missing 7 ∷ Null ∷ Bad DivideByZero ∷ []
code_before_zero = refl

code_of_test : over nulls (conditional (relation Equal v (number 4)) (number 1) (number 2)) ≡ Missing 7 ∷ Null ∷ Int (pos 1) ∷ []
code_of_test = refl

-- `v and ?3`, `?3 and v`, `v or ?3`, `not v`
abbrev truths : List Datum
truths = Missing 7 ∷ Null ∷ Truth true ∷ Truth false ∷ []

and_code : over truths (conjunction v (reason 3)) ≡ Missing 7 ∷ Null ∷ Missing 3 ∷ Truth false ∷ []
and_code = refl

code_and : over truths (conjunction (reason 3) v) ≡ Missing 3 ∷ Missing 3 ∷ Missing 3 ∷ Truth false ∷ []
code_and = refl

or_code : over truths (disjunction v (reason 3)) ≡ Missing 7 ∷ Null ∷ Truth true ∷ Missing 3 ∷ []
or_code = refl

not_code : over truths (denial v) ≡ Missing 7 ∷ Null ∷ Truth false ∷ Truth true ∷ []
not_code = refl

-- `?7=?7`, `?3/0`
null_is_not_itself : places (0 ∷ []) (relation Equal (reason 7) (reason 7)) ≡ Missing 7 ∷ []
null_is_not_itself = refl

null_over_zero : places (0 ∷ []) (calculation Div (reason 3) (number 0)) ≡ Missing 3 ∷ []
null_over_zero = refl

-- `missing_reason(missing(v))`, `missing_reason(v)`, `string(missing(v))`, `is_null(v)`
abbrev codes_and_nulls : List Datum
codes_and_nulls = Int (pos 0) ∷ Int (pos 5) ∷ Missing 9 ∷ []

reason_of_missing : over codes_and_nulls (null_code (coded_null v)) ≡ Int (pos 0) ∷ Int (pos 5) ∷ Int (pos 9) ∷ []
reason_of_missing = refl

reason_of_values : over codes_and_nulls (null_code v) ≡ Int (negsuc 0) ∷ Int (negsuc 0) ∷ Int (pos 9) ∷ []
reason_of_values = refl

text_of_missing : over codes_and_nulls (decimal_text (coded_null v)) ≡ Null ∷ Missing 5 ∷ Missing 9 ∷ []
text_of_missing = refl

null_of_each_code : over codes_and_nulls (null_test v) ≡ Truth false ∷ Truth false ∷ Truth true ∷ []
null_of_each_code = refl

-- `missing(i+126)`, and `missing_reason(v)`, `v+1`
codes_in_range : places (0 ∷ 1 ∷ 2 ∷ []) (coded_null (calculation Add i (number 126))) ≡ Missing 126 ∷ Missing 127 ∷ Bad OutOfBounds ∷ []
codes_in_range = refl

reasons : over nulls (null_code v) ≡ Int (pos 7) ∷ Int (pos 0) ∷ Int (negsuc 0) ∷ []
reasons = refl

sums_of_nulls : over nulls (calculation Add v (number 1)) ≡ Missing 7 ∷ Null ∷ Int (pos 5) ∷ []
sums_of_nulls = refl

-- `strlen('it')`, `'a' + 'b'`, `'a' < 'b'`
texts : map (λ e. value_of e [] []) (byte_length (literal (Text (codes "it"))) ∷ calculation Add (literal (Text (codes "a"))) (literal (Text (codes "b"))) ∷ relation Less (literal (Text (codes "a"))) (literal (Text (codes "b"))) ∷ [])
    ≡ Int (pos 2) ∷ Text (codes "ab") ∷ Truth true ∷ []
texts = refl

-- which kinds an expression has over an attribute `v` of numbers and a dimension `i`: numbers, texts, truths
abbrev kinds_of : Expr → Bool × Bool × Bool
kinds_of e = (has_kind (Int64 ∷ []) 1 e Int64, has_kind (Int64 ∷ []) 1 e Str, has_kind (Int64 ∷ []) 1 e Truths)

abbrev text : Expr
text = literal (Text (codes "a"))

abbrev truth : Expr
truth = literal (Truth true)

nulls_have_each_kind : map kinds_of (literal Null ∷ reason 127 ∷ coded_null v ∷ conditional truth (literal Null) (coded_null i) ∷ []) ≡ (true, true, true) ∷ (true, true, true) ∷ (true, true, true) ∷ (true, true, true) ∷ []
nulls_have_each_kind = refl

sums_have_a_kind : map kinds_of (calculation Add v i ∷ calculation Add text text ∷ calculation Add text v ∷ calculation Sub text text ∷ calculation Add (literal Null) text ∷ []) ≡ (true, false, false) ∷ (false, true, false) ∷ (false, false, false) ∷ (false, false, false) ∷ (false, true, false) ∷ []
sums_have_a_kind = refl

truths_are_not_ordered : map kinds_of (relation Equal truth truth ∷ relation Less truth truth ∷ relation Less text text ∷ []) ≡ (false, false, true) ∷ (false, false, false) ∷ (false, false, true) ∷ []
truths_are_not_ordered = refl

reasons_are_numbers : map kinds_of (null_code text ∷ null_code (coded_null text) ∷ null_test truth ∷ []) ≡ (true, false, false) ∷ (false, false, false) ∷ (false, false, true) ∷ []
reasons_are_numbers = refl

places_in_range : map kinds_of (attribute_value 1 ∷ dimension_value 1 ∷ reason 128 ∷ reason 0 ∷ []) ≡ (false, false, false) ∷ (false, false, false) ∷ (false, false, false) ∷ (false, false, false) ∷ []
places_in_range = refl
