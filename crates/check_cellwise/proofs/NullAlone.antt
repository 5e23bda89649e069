-- An expression of a kind is no null alone.
use Rattle.std.proofs.Common.{◌≡◌, ℕ, Bool, true, false, ◌&&◌, Option, Some, None, Ok, IfOk, List, refl, ap}
use Rattle.cell_values.specs.declared.name.Span.{Span}
use Rattle.cell_values.specs.declared.datum.CompareOp.{CompareOp}
use Rattle.cell_values.specs.declared.datum.CompareOp.TheVariants as compare
use Rattle.cell_values.specs.declared.schema.Attribute.{Attribute}
use Rattle.cell_values.specs.declared.schema.Dimension.{Dimension}
use Rattle.cell_values.specs.declared.schema.Kind.{Kind}
use Rattle.cell_values.specs.declared.schema.Kind.TheVariants.{Int64, Str, Bool as Truths}
use Rattle.schema_grammar.specs.declared.kinds.TypeKind.TheVariants.{WrongType}
use Rattle.afl_trees.specs.Term.{Term, create, number, text, truth, null, missing, reference, version, call, schema, star, renamed, opposite, negative, binary, group, Terms, no_terms, and_term}
use Rattle.afl_trees.specs.declared.tree.BinaryOp.{BinaryOp}
use Rattle.afl_trees.specs.declared.tree.BinaryOp.TheVariants.{Or, And, Equal, Differs, Less, AtMost, More, AtLeast, Add, Sub, Mul, Div, Rem}
use Rattle.expr_nulls.specs.declared.expr.ArithOp.{ArithOp}
use Rattle.expr_nulls.specs.declared.expr.ArithOp.TheVariants as arith
use Rattle.logical_plan.specs.Typing.{is_null_alone}
use Rattle.check_rules.specs.Checked.{then}
use Rattle.check_rules.specs.Operators.{operator_named, form_named}
use Rattle.check_rules.proofs.RulesHolding.{demanded, thens, of_answer}
use Rattle.check_rules.specs.declared.rules.operator.Operator.{Operator}
use Rattle.check_rules.specs.declared.rules.operator.Form.{Form}
use Rattle.check_rules.specs.declared.rules.operator.Form.TheVariants.{Iif, One}
use Rattle.check_rules.specs.declared.rules.operator.OneForm.{OneForm}
use Rattle.check_rules.specs.declared.rules.operator.OneForm.TheVariants.{IsNull, StrLen, ToText, Missing, Reason}
use Rattle.check_exprs.specs.Expressions.{fits, fits_beside, is_ordered, sum_kind, common_kind, attribute_place, dimension_place, by_place, negated, denied, calculated, equated, ranked, combined, chosen, applied, bracketed, typed, typed_call}
use Rattle.check_exprs.specs.declared.operand.Operand.{Operand}

abbrev Some_if : Operand → Type 0
Some_if x = (kind : Kind) → x.kind ≡ Some kind → is_null_alone x.expr ≡ false

calculates : (s : Span) (op : ArithOp) (k : Kind) (a b : Operand) → IfOk (calculated s op k a b) Some_if
calculates s op k a b = demanded Some_if (fits k a.kind) a.span WrongType _ (λ t. demanded Some_if (fits k b.kind) b.span WrongType _ (λ u kind e. refl))

equates : (s : Span) (op : CompareOp) (a b : Operand) → IfOk (equated s op a b) Some_if
equates s op a b = demanded Some_if (fits_beside a.kind b.kind) b.span WrongType _ (λ t kind e. refl)

ranks : (s : Span) (op : CompareOp) (a b : Operand) → IfOk (ranked s op a b) Some_if
ranks s op a b = demanded Some_if (is_ordered a.kind) a.span WrongType _ (λ t. demanded Some_if (is_ordered b.kind && fits_beside a.kind b.kind) b.span WrongType _ (λ u kind e. refl))

combines : (s : Span) (op : BinaryOp) (a b : Operand) → IfOk (combined s op a b) Some_if
combines s Or a b = demanded Some_if (fits Truths a.kind) a.span WrongType _ (λ t. demanded Some_if (fits Truths b.kind) b.span WrongType _ (λ u kind e. refl))
combines s And a b = demanded Some_if (fits Truths a.kind) a.span WrongType _ (λ t. demanded Some_if (fits Truths b.kind) b.span WrongType _ (λ u kind e. refl))
combines s Equal a b = equates s compare.Equal a b
combines s Differs a b = equates s compare.Differs a b
combines s Less a b = ranks s compare.Less a b
combines s AtMost a b = ranks s compare.AtMost a b
combines s More a b = ranks s compare.More a b
combines s AtLeast a b = ranks s compare.AtLeast a b
combines s Add a b = calculates s arith.Add (sum_kind a.kind b.kind) a b
combines s Sub a b = calculates s arith.Sub Int64 a b
combines s Mul a b = calculates s arith.Mul Int64 a b
combines s Div a b = calculates s arith.Div Int64 a b
combines s Rem a b = calculates s arith.Rem Int64 a b

not_left : (a b : Bool) → a ≡ false → (a && b) ≡ false
not_left a b e = ap (λ x. x && b) e

not_right : (a b : Bool) → b ≡ false → (a && b) ≡ false
not_right true b e = e
not_right false b e = refl

either_kind : (a b : Operand) (k : Kind) (o : Option Kind) → Some_if a → Some_if b → a.kind ≡ o → common_kind o b.kind ≡ Some k → (is_null_alone a.expr && is_null_alone b.expr) ≡ false
either_kind a b k None f g same e = not_right (is_null_alone a.expr) (is_null_alone b.expr) (g k e)
either_kind a b k (Some j) f g same e = not_left (is_null_alone a.expr) (is_null_alone b.expr) (f j same)

chooses : (s : Span) (test a b : Operand) → Some_if a → Some_if b → IfOk (chosen s test a b) Some_if
chooses s test a b f g =
    demanded Some_if (fits Truths test.kind) test.span WrongType _ (λ t.
    demanded Some_if (fits_beside a.kind b.kind) b.span WrongType _ (λ u kind e. either_kind a b kind a.kind f g refl e))

applies : (s : Span) (form : OneForm) (a : Operand) → IfOk (applied s form a) Some_if
applies s IsNull a = λ kind e. refl
applies s StrLen a = demanded Some_if (fits Str a.kind) a.span WrongType _ (λ t kind e. refl)
applies s ToText a = demanded Some_if (fits Int64 a.kind) a.span WrongType _ (λ t kind e. refl)
applies s Missing a = demanded Some_if (fits Int64 a.kind) a.span WrongType _ (λ t kind e. cc)
applies s Reason a = λ kind e. refl

module _ (attributes : List Attribute) (dimensions : List Dimension) where
  placed : (s : Span) (a d : Option ℕ) → IfOk (by_place s attributes a d) Some_if
  placed s (Some place) d = λ kind e. refl
  placed s None (Some place) = λ kind e. refl
  placed s None None = tt

  mutual
    nulls : (t : Term) → IfOk (typed attributes dimensions t) Some_if
    nulls (number s n) = λ kind e. refl
    nulls (text s x) = λ kind e. refl
    nulls (truth s b) = λ kind e. refl
    nulls (null s) = λ kind e. cc
    nulls (missing s c) = λ kind e. cc
    nulls (reference s name) = placed s (attribute_place attributes name) (dimension_place dimensions name)
    nulls (negative s a) = thens Some_if (typed attributes dimensions a) (negated s) (λ x f. demanded Some_if (fits Int64 x.kind) x.span WrongType _ (λ t kind e. refl))
    nulls (opposite s a) = thens Some_if (typed attributes dimensions a) (denied s) (λ x f. demanded Some_if (fits Truths x.kind) x.span WrongType _ (λ t kind e. refl))
    nulls (binary s op a b) =
        thens Some_if (typed attributes dimensions a) (λ x. then (typed attributes dimensions b) (combined s op x)) (λ x f.
        thens Some_if (typed attributes dimensions b) (combined s op x) (λ y g. combines s op x y))
    nulls (group s a) = thens Some_if (typed attributes dimensions a) (λ x. Ok (bracketed s x)) (λ x f. of_answer Some_if (typed attributes dimensions a) x (nulls a) f)
    nulls (call s name operands) = nulls_call s name (operator_named name) (form_named name) operands
    nulls (version s name n) = tt
    nulls (schema s written) = tt
    nulls (star s) = tt
    nulls (renamed s a name) = tt
    nulls (create s name written) = tt

    nulls_call : (s : Span) (name : List ℕ) (operator : Option Operator) (form : Option Form) (operands : Terms) → IfOk (typed_call attributes dimensions s name operator form operands) Some_if
    nulls_call s name (Some operator) form operands = tt
    nulls_call s name None None operands = tt
    nulls_call s name None (Some Iif) (and_term test (and_term a (and_term b no_terms))) =
        thens Some_if (typed attributes dimensions test) _ (λ x f.
        thens Some_if (typed attributes dimensions a) _ (λ y g.
        thens Some_if (typed attributes dimensions b) (chosen s x y) (λ z h.
        chooses s x y z (of_answer Some_if (typed attributes dimensions a) y (nulls a) g) (of_answer Some_if (typed attributes dimensions b) z (nulls b) h))))
    nulls_call s name None (Some (One form)) (and_term a no_terms) = thens Some_if (typed attributes dimensions a) (applied s form) (λ x f. applies s form x)
    nulls_call s name None (Some form) operands = tt

pub kind_of_null : (attributes : List Attribute) (dimensions : List Dimension) (e : Term) (x : Operand) (kind : Kind) → typed attributes dimensions e ≡ Ok x → x.kind ≡ Some kind → is_null_alone x.expr ≡ false
kind_of_null attributes dimensions e x kind t k = of_answer Some_if (typed attributes dimensions e) x (nulls attributes dimensions e) t kind k
