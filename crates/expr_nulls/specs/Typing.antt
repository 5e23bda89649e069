-- When an expression is of a kind. A null of any code and a made null are of every kind.
use Rattle.std.specs.Prelude.{ℕ, ℤ, Bool, true, false, ◌&&◌, ◌||◌, nat_lt, List, length, slice_get, Option, Some, None, IsTrue}
use Rattle.std.specs.List.{list_all, AllZip}
use Rattle.cell_values.specs.declared.datum.Datum.{Datum}
use Rattle.cell_values.specs.declared.datum.CompareOp.{CompareOp}
use Rattle.cell_values.specs.declared.datum.CompareOp.TheVariants.{Equal, Differs}
use Rattle.cell_values.specs.declared.schema.Kind.{Kind}
use Rattle.cell_values.specs.declared.schema.Kind.TheVariants.{Int64, Str, Bool as Truths}
use Rattle.cell_values.specs.Cells.{is_of_kind}
use Rattle.cell_values.specs.Table.{fits_int64}
use Rattle.expr_nulls.specs.declared.expr.ArithOp.{ArithOp}
use Rattle.expr_nulls.specs.declared.expr.ArithOp.TheVariants.{Add}
use Rattle.expr_nulls.specs.Expr.{Expr, literal, attribute_value, dimension_value, minus, denial, calculation, relation, conjunction}
use Rattle.expr_nulls.specs.Expr.{disjunction, conditional, null_test, byte_length, decimal_text, coded_null, null_code}
use Rattle.expr_nulls.specs.ExprValue.{value_of}

abbrev pub same_kind : Kind → Kind → Bool
same_kind Int64 Int64 = true
same_kind Str Str = true
same_kind Truths Truths = true
same_kind j k = false

-- the kind in a place is this one
abbrev pub is_kind_at : Option Kind → Kind → Bool
is_kind_at (Some j) k = same_kind j k
is_kind_at None k = false

-- the kinds on which an operator works: numbers, and texts for `+`
abbrev pub calculates : ArithOp → Kind → Bool
calculates op Int64 = true
calculates Add Str = true
calculates op k = false

-- the kinds that a comparison compares: numbers and texts, and truths for `=` and `<>`
abbrev pub compares : CompareOp → Kind → Bool
compares op Int64 = true
compares op Str = true
compares Equal Truths = true
compares Differs Truths = true
compares op Truths = false

-- over attributes of these kinds and so many dimensions
abbrev pub has_kind : List Kind → ℕ → Expr → Kind → Bool
has_kind kinds dims (literal v) k = is_of_kind k v
has_kind kinds dims (attribute_value place) k = is_kind_at (slice_get kinds place) k
has_kind kinds dims (dimension_value place) k = nat_lt place dims && same_kind Int64 k
has_kind kinds dims (minus a) k = has_kind kinds dims a Int64 && same_kind Int64 k
has_kind kinds dims (denial a) k = has_kind kinds dims a Truths && same_kind Truths k
has_kind kinds dims (calculation op a b) k = calculates op k && has_kind kinds dims a k && has_kind kinds dims b k
has_kind kinds dims (relation op a b) k =
    ((compares op Int64 && has_kind kinds dims a Int64 && has_kind kinds dims b Int64)
    || (compares op Str && has_kind kinds dims a Str && has_kind kinds dims b Str)
    || (compares op Truths && has_kind kinds dims a Truths && has_kind kinds dims b Truths)) && same_kind Truths k
has_kind kinds dims (conjunction a b) k = has_kind kinds dims a Truths && has_kind kinds dims b Truths && same_kind Truths k
has_kind kinds dims (disjunction a b) k = has_kind kinds dims a Truths && has_kind kinds dims b Truths && same_kind Truths k
has_kind kinds dims (conditional test a b) k = has_kind kinds dims test Truths && has_kind kinds dims a k && has_kind kinds dims b k
has_kind kinds dims (null_test a) k = (has_kind kinds dims a Int64 || has_kind kinds dims a Str || has_kind kinds dims a Truths) && same_kind Truths k
has_kind kinds dims (byte_length a) k = has_kind kinds dims a Str && same_kind Int64 k
has_kind kinds dims (decimal_text a) k = has_kind kinds dims a Int64 && same_kind Str k
has_kind kinds dims (coded_null a) k = has_kind kinds dims a Int64
has_kind kinds dims (null_code a) k = (has_kind kinds dims a Int64 || has_kind kinds dims a Str || has_kind kinds dims a Truths) && same_kind Int64 k

-- An expression of a kind has a value of this kind at each coordinate of 64-bit numbers, over values of the attributes' kinds.
abbrev pub TypedValuesFit : Type 0
TypedValuesFit = (kinds : List Kind) (at : List ℤ) (values : List Datum)
    → IsTrue (list_all fits_int64 at) → AllZip (λ kind v. IsTrue (is_of_kind kind v)) kinds values
    → (e : Expr) (k : Kind) → IsTrue (has_kind kinds (length at) e k) → IsTrue (is_of_kind k (value_of e at values))
