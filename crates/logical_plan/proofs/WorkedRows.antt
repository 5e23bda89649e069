-- Small results of operators that go cell by cell, of boxes and of joins, as the definitions compute them.
use Rattle.std.proofs.Common.{◌≡◌, pos, negsuc, true, false, [], ◌∷◌, Some, Ok, refl, codes}
use Rattle.std.specs.Fmt.{digits}
use Rattle.cell_values.specs.declared.datum.CompareOp.TheVariants.{Equal, More}
use Rattle.cell_values.specs.declared.datum.Datum.TheVariants.{Null, Missing, Int, Truth, Bad}
use Rattle.cell_values.specs.declared.datum.Cell.TheVariants.{Doubt}
use Rattle.cell_values.specs.declared.datum.FaultKind.TheVariants.{Overflow, DivideByZero, OutOfBounds, NullInNotNull}
use Rattle.cell_values.specs.declared.schema.Kind.TheVariants.{Int64}
use Rattle.cell_values.specs.declared.schema.Schema.{Schema}
use Rattle.array_rows.specs.Rows.{placed}
use Rattle.array_rows.specs.Boxes.{corners}
use Rattle.expr_nulls.specs.declared.expr.ArithOp.TheVariants.{Add, Mul, Div, Rem, Sub}
use Rattle.expr_nulls.specs.Expr.{literal, minus, calculation, relation, conjunction, disjunction, conditional, null_code, coded_null}
use Rattle.logical_plan.specs.Faults.{fault_of}
use Rattle.logical_plan.specs.Meaning.{meaning}
use Rattle.logical_plan.specs.PlanSchema.{schema_of, join_schema, cross_schema}
use Rattle.logical_plan.specs.Query.{Query, built, listed, scanned, filtered, applied, projected, between, subarray, sliced, joined, crossed}
use Rattle.logical_plan.proofs.Samples.{nothing, number, v, x, y, int, at1, at2, broken_at, dim, numbers, along, line, computed}

-- ---- filter and apply

five : Query
five = listed (along (line 4 2 0)) (at1 (pos 0) (int 1 ∷ []) ∷ at1 (pos 2) (Null ∷ []) ∷ at1 (pos 3) (int 5 ∷ []) ∷ at1 (pos 4) (int 2 ∷ []) ∷ [])

-- false and null leave a cell out
above_one : (meaning nothing (filtered five (relation More v (number 1)))).rows ≡ Ok (at1 (pos 3) (int 5 ∷ []) ∷ at1 (pos 4) (int 2 ∷ []) ∷ [])
unfolding five
above_one = refl

sixths : Query
sixths = applied (built (along (line 3 2 0)) x) (computed (codes "w") (calculation Div (number 6) v) ∷ [])

-- a fault outside the box does not count
in_box : (meaning nothing (between sixths (corners (pos 1 ∷ []) (pos 3 ∷ [])))).rows
    ≡ Ok (at1 (pos 1) (int 1 ∷ int 6 ∷ []) ∷ at1 (pos 2) (int 2 ∷ int 3 ∷ []) ∷ at1 (pos 3) (int 3 ∷ int 2 ∷ []) ∷ [])
unfolding sixths
in_box = refl

without_box : fault_of (meaning nothing sixths).rows ≡ Some (broken_at (pos 0 ∷ []) DivideByZero)
unfolding sixths
without_box = refl

-- the first fault in row-major order
two_faults : fault_of (meaning nothing (built (along (dim (codes "x") (pos 0) (pos 1) 2 0 ∷ dim (codes "y") (pos 0) (pos 3) 2 0 ∷ []))
    (calculation Div (number 8) (conditional (disjunction (conjunction (relation Equal x (number 1)) (relation Equal y (number 0))) (conjunction (relation Equal x (number 0)) (relation Equal y (number 2)))) (number 0) (number 1))))).rows
    ≡ Some (broken_at (pos 0 ∷ pos 2 ∷ []) DivideByZero)
two_faults = refl

-- a test in doubt leaves the cell in doubt
doubt : (meaning nothing (filtered (built (along (line 1 2 0)) x) (relation Equal (calculation Div (number 1) v) (number 1)))).rows
    ≡ Ok (placed (pos 0 ∷ []) (Doubt DivideByZero) ∷ at1 (pos 1) (int 1 ∷ []) ∷ [])
doubt = refl

null_and_zero : Query
null_and_zero = listed (along (line 1 2 0)) (at1 (pos 0) (Null ∷ []) ∷ at1 (pos 1) (int 0 ∷ []) ∷ [])

logic_of_nulls : (meaning nothing (applied null_and_zero (computed (codes "p") (disjunction (relation More v (number 1)) (literal (Truth true)))
    ∷ computed (codes "q") (conditional (relation Equal v (number 0)) (number 1) (calculation Div (number 10) v)) ∷ []))).rows
    ≡ Ok (at1 (pos 0) (Null ∷ Truth true ∷ Null ∷ []) ∷ at1 (pos 1) (int 0 ∷ Truth true ∷ int 1 ∷ []) ∷ [])
unfolding null_and_zero
logic_of_nulls = refl

coded : Query
coded = listed (along (line 3 2 0)) (at1 (pos 0) (Missing 7 ∷ []) ∷ at1 (pos 1) (Null ∷ []) ∷ at1 (pos 2) (int 4 ∷ []) ∷ [])

codes_of_nulls : (meaning nothing (applied coded (computed (codes "r") (null_code v) ∷ computed (codes "w") (calculation Add v (number 1)) ∷ []))).rows
    ≡ Ok (at1 (pos 0) (Missing 7 ∷ int 7 ∷ Missing 7 ∷ []) ∷ at1 (pos 1) (Null ∷ int 0 ∷ Null ∷ []) ∷ at1 (pos 2) (int 4 ∷ Int (negsuc 0) ∷ int 5 ∷ []) ∷ [])
unfolding coded
codes_of_nulls = refl

-- a null operand is the answer, the left one first
nulls_first : (meaning nothing (applied coded (computed (codes "a") (relation Equal (literal (Missing 5)) v) ∷ computed (codes "b") (relation Equal v (literal (Missing 3)))
    ∷ computed (codes "c") (minus v) ∷ computed (codes "e") (conditional (relation Equal v (number 4)) (number 1) (number 2)) ∷ []))).rows
    ≡ Ok (at1 (pos 0) (Missing 7 ∷ Missing 5 ∷ Missing 7 ∷ Missing 7 ∷ Missing 7 ∷ [])
    ∷ at1 (pos 1) (Null ∷ Missing 5 ∷ Null ∷ Null ∷ Null ∷ [])
    ∷ at1 (pos 2) (int 4 ∷ Missing 5 ∷ Missing 3 ∷ Int (negsuc 3) ∷ int 1 ∷ []) ∷ [])
unfolding coded
nulls_first = refl

-- ---- build

guarded : (meaning nothing (built (along (line 2 2 0)) (conditional (relation Equal x (number 0)) (number 7) (calculation Div (number 6) x)))).rows
    ≡ Ok (at1 (pos 0) (int 7 ∷ []) ∷ at1 (pos 1) (int 6 ∷ []) ∷ at1 (pos 2) (int 3 ∷ []) ∷ [])
guarded = refl

least_remainder : (meaning nothing (built (along (line 0 1 0)) (calculation Rem (calculation Sub (minus (number 9223372036854775807)) (number 1)) (minus (number 1))))).rows ≡ Ok (at1 (pos 0) (int 0 ∷ []) ∷ [])
least_remainder = refl

least_quotient : fault_of (meaning nothing (built (along (line 0 1 0)) (calculation Div (calculation Sub (minus (number 9223372036854775807)) (number 1)) (minus (number 1))))).rows ≡ Some (broken_at (pos 0 ∷ []) Overflow)
least_quotient = refl

code_128 : fault_of (meaning nothing (built (along (line 1 2 0)) (coded_null (calculation Add x (number 127))))).rows ≡ Some (broken_at (pos 1 ∷ []) OutOfBounds)
code_128 = refl

not_null : Schema
not_null = record { attributes = record { name = codes "v"; kind = Int64; nullable = false } ∷ []; dimensions = line 1 2 0 }

-- a null of whatever code where none may be
null_built : (meaning nothing (built not_null (conditional (relation Equal x (number 0)) (number 1) (literal (Missing 4))))).rows
    ≡ Ok (at1 (pos 0) (int 1 ∷ []) ∷ at1 (pos 1) (Bad NullInNotNull ∷ []) ∷ [])
unfolding not_null
null_built = refl

-- ---- boxes

square : Query
square = built (along (dim (codes "x") (pos 0) (pos 2) 2 0 ∷ dim (codes "y") (pos 0) (pos 2) 2 0 ∷ [])) (calculation Add (calculation Mul (number 10) x) y)

-- the box is clipped, and begins at 0
part : (meaning nothing (subarray square (corners (pos 1 ∷ pos 0 ∷ []) (pos 5 ∷ pos 1 ∷ [])))).rows
    ≡ Ok (at2 (pos 0) (pos 0) (int 10 ∷ []) ∷ at2 (pos 0) (pos 1) (int 11 ∷ []) ∷ at2 (pos 1) (pos 0) (int 20 ∷ []) ∷ at2 (pos 1) (pos 1) (int 21 ∷ []) ∷ [])
unfolding square
part = refl

part_schema : (schema_of (subarray square (corners (pos 1 ∷ pos 0 ∷ []) (pos 5 ∷ pos 1 ∷ [])))).dimensions
    ≡ dim (codes "x") (pos 0) (pos 1) 2 0 ∷ dim (codes "y") (pos 0) (pos 1) 2 0 ∷ []
unfolding square
part_schema = refl

row_of_two : (meaning nothing (sliced (built (along (dim (codes "x") (pos 0) (pos 1) 2 0 ∷ dim (codes "y") (pos 0) (pos 2) 3 0 ∷ [])) (calculation Add (calculation Mul (number 10) x) y))
    (record { dimension = 0; at = pos 1 } ∷ []))).rows
    ≡ Ok (at1 (pos 0) (int 10 ∷ []) ∷ at1 (pos 1) (int 11 ∷ []) ∷ at1 (pos 2) (int 12 ∷ []) ∷ [])
row_of_two = refl

-- the schema of the source is known below a projection too
below_zero : meaning nothing (subarray (projected (built (along (dim (codes "i") (negsuc 2) (pos 3) 2 1 ∷ [])) x) (0 ∷ [])) (corners (negsuc 4 ∷ []) (negsuc 1 ∷ [])))
    ≡ record { schema = along (dim (codes "i") (pos 0) (pos 1) 2 1 ∷ []); rows = Ok (at1 (pos 0) (Int (negsuc 2) ∷ []) ∷ at1 (pos 1) (Int (negsuc 1) ∷ []) ∷ []) }
below_zero = refl

-- ---- joins

both : Schema
both = record { attributes = numbers (codes "v") ∷ numbers (codes "v_2") ∷ []; dimensions = line 1 2 0 }

side_by_side : (meaning nothing (joined (built (along (line 1 2 0)) (calculation Add x (number 5))) (built (along (line 1 1 0)) x) both)).rows
    ≡ Ok (at1 (pos 0) (int 5 ∷ int 0 ∷ []) ∷ at1 (pos 1) (int 6 ∷ int 1 ∷ []) ∷ [])
unfolding both
side_by_side = refl

free_suffix : join_schema (along (line 1 2 0)) (along (line 1 1 0)) ≡ both
unfolding both digits
free_suffix = refl

-- the least suffix that is free, given one after the other
next_suffixes : (join_schema both both).attributes ≡ numbers (codes "v") ∷ numbers (codes "v_2") ∷ numbers (codes "v_3") ∷ numbers (codes "v_2_2") ∷ []
unfolding both digits
next_suffixes = refl

left_side : Query
left_side = built (record { attributes = numbers (codes "a") ∷ []; dimensions = dim (codes "x") (pos 0) (pos 1) 2 0 ∷ dim (codes "y") (pos 0) (pos 2) 3 0 ∷ [] }) (calculation Add (calculation Mul (number 10) x) y)

right_side : Query
right_side = listed (record { attributes = numbers (codes "b") ∷ []; dimensions = dim (codes "z") (pos 0) (pos 2) 3 0 ∷ [] }) (at1 (pos 0) (int 7 ∷ []) ∷ at1 (pos 2) (int 9 ∷ []) ∷ [])

crossed_schema : Schema
crossed_schema = record { attributes = numbers (codes "a") ∷ numbers (codes "b") ∷ []; dimensions = dim (codes "x") (pos 0) (pos 1) 2 0 ∷ dim (codes "y") (pos 0) (pos 2) 3 0 ∷ [] }

partners : (meaning nothing (crossed left_side right_side (record { left = 1; right = 0 } ∷ []) crossed_schema)).rows
    ≡ Ok (at2 (pos 0) (pos 0) (int 0 ∷ int 7 ∷ []) ∷ at2 (pos 0) (pos 2) (int 2 ∷ int 9 ∷ []) ∷ at2 (pos 1) (pos 0) (int 10 ∷ int 7 ∷ []) ∷ at2 (pos 1) (pos 2) (int 12 ∷ int 9 ∷ []) ∷ [])
unfolding left_side right_side crossed_schema
partners = refl

partners_schema : cross_schema (record { left = 1; right = 0 } ∷ []) (schema_of left_side) (schema_of right_side) ≡ crossed_schema
unfolding left_side right_side crossed_schema
partners_schema = refl

-- an array without versions has no cells, whatever stands under number 0
no_version : (meaning (λ name version. at1 (pos 0) (int 1 ∷ []) ∷ []) (scanned (record { name = codes "A"; version = 0; schema = along (line 3 2 0) }))).rows ≡ Ok []
no_version = refl
