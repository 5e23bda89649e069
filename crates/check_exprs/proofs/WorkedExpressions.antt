-- Worked examples of expressions, over one dimension `i`.
use Rattle.std.proofs.Common.{◌≡◌, ℕ, pos, true, Some, None, Ok, [], ◌∷◌, refl}
use Rattle.std.specs.Prelude.{codes}
use Rattle.cell_values.specs.declared.name.Span.{Span}
use Rattle.cell_values.specs.declared.schema.Kind.TheVariants.{Int64}
use Rattle.cell_values.specs.declared.schema.Dimension.{Dimension}
use Rattle.cell_values.specs.declared.datum.Datum.TheVariants as datum
use Rattle.schema_grammar.specs.declared.kinds.TypeKind.TheVariants.{UnknownName, WrongType, WrongCount}
use Rattle.check_rules.specs.Term.{number, text, truth, null, missing, reference, version, call, binary, group, no_terms, and_term}
use Rattle.check_rules.specs.BinaryOp.TheVariants.{Equal, Less, Add, Sub}
use Rattle.expr_nulls.specs.Expr.{literal, dimension_value, calculation, conditional}
use Rattle.expr_nulls.specs.declared.expr.ArithOp.TheVariants as arith_op
use Rattle.check_rules.specs.Checked.{refused}
use Rattle.check_exprs.specs.Expressions.{operand, typed}
use Rattle.check_rules.specs.Operators.{query_named, change_named, form_named}

at : ℕ → ℕ → Span
at a b = record { start = a; end = b }

i : Dimension
i = record { name = codes "i"; lo = pos 0; hi = pos 1; chunk = 2; overlap = 0 }

-- i+1
a_sum : typed [] (i ∷ []) (binary (at 0 3) Add (reference (at 0 1) (codes "i")) (number (at 2 3) (pos 1)))
    ≡ Ok (operand (at 0 3) (calculation arith_op.Add (dimension_value 0) (literal (datum.Int (pos 1)))) (Some Int64))
unfolding at i
a_sum = refl

-- true+j: a fault within an operand comes before one of the operator
inner_first : typed [] (i ∷ []) (binary (at 0 6) Add (truth (at 0 4) true) (reference (at 5 6) (codes "j"))) ≡ refused (at 5 6) UnknownName
unfolding at i
inner_first = refl

-- 1+'a': where an operand is a text, both are to be texts
text_wanted : typed [] (i ∷ []) (binary (at 0 5) Add (number (at 0 1) (pos 1)) (text (at 2 5) (97 ∷ []))) ≡ refused (at 0 1) WrongType
unfolding at i
text_wanted = refl

-- 1='a': the first operand may be of any kind, and the second is wrong beside it
second_wrong : typed [] (i ∷ []) (binary (at 0 5) Equal (number (at 0 1) (pos 1)) (text (at 2 5) (97 ∷ []))) ≡ refused (at 2 5) WrongType
unfolding at i
second_wrong = refl

-- true<1: truths have no order
first_wrong : typed [] (i ∷ []) (binary (at 0 6) Less (truth (at 0 4) true) (number (at 5 6) (pos 1))) ≡ refused (at 0 4) WrongType
unfolding at i
first_wrong = refl

-- (null)-?7: nulls of whatever code are numbers too
nulls_fit : typed [] (i ∷ []) (binary (at 0 9) Sub (group (at 0 6) (null (at 1 5))) (missing (at 7 9) 7))
    ≡ Ok (operand (at 0 9) (calculation arith_op.Sub (literal datum.Null) (literal (datum.Missing 7))) (Some Int64))
unfolding at i
nulls_fit = refl

-- iif(true,null,?7) is of every kind
null_alone : typed [] (i ∷ []) (call (at 0 17) (codes "iif") (and_term (truth (at 4 8) true) (and_term (null (at 9 13)) (and_term (missing (at 14 16) 7) no_terms))))
    ≡ Ok (operand (at 0 17) (conditional (literal (datum.Truth true)) (literal datum.Null) (literal (datum.Missing 7))) None)
unfolding at i query_named change_named form_named
null_alone = refl

-- strlen(j,j): the number of operands comes before the operands
count_first : typed [] (i ∷ []) (call (at 0 11) (codes "strlen") (and_term (reference (at 7 8) (codes "j")) (and_term (reference (at 9 10) (codes "j")) no_terms))) ≡ refused (at 0 11) WrongCount
unfolding at i query_named change_named form_named
count_first = refl

-- sum(j): no function of an expression
no_function : typed [] (i ∷ []) (call (at 0 6) (codes "sum") (and_term (reference (at 4 5) (codes "j")) no_terms)) ≡ refused (at 0 3) UnknownName
unfolding at i query_named change_named form_named
no_function = refl

-- scan(j): an operator
an_operator : typed [] (i ∷ []) (call (at 0 7) (codes "scan") (and_term (reference (at 5 6) (codes "j")) no_terms)) ≡ refused (at 0 7) WrongType
unfolding at i query_named change_named form_named
an_operator = refl

-- A@1
a_version : typed [] (i ∷ []) (version (at 0 3) (codes "A") (pos 1)) ≡ refused (at 0 3) WrongType
unfolding at i
a_version = refl
