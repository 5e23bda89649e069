-- Expressions: what a tree is as an expression over the attributes and dimensions of a source, or the first rule that it breaks.
--
-- A name is an attribute's or a dimension's; a dimension is a number. Each operand is checked before its operator, the left one
-- first, so a fault within an operand comes before one of the operator. Of the operands of an operator the wrong one is the first whose
-- kind no row of its table has beside the operands before it.
--
-- `null`, a code and a call of `missing` are of every kind, and so is a bracket whose content is, and an `iif` of two that are.
use Rattle.std.specs.Prelude.{ℕ, Bool, true, false, Option, Some, None, Ok, List, length, ◌&&◌, ◌||◌, slice_get, position}
use Rattle.std.specs.Option.{option_map}
use Rattle.std.specs.Str.{bytes_eq}
use Rattle.cell_values.specs.declared.name.Span.{Span}
use Rattle.cell_values.specs.declared.schema.Kind.{Kind}
use Rattle.cell_values.specs.declared.schema.Kind.TheVariants.{Int64, Str, Bool as Truths}
use Rattle.cell_values.specs.declared.schema.Attribute.{Attribute}
use Rattle.cell_values.specs.declared.schema.Dimension.{Dimension}
use Rattle.cell_values.specs.declared.datum.Datum.TheVariants as datum
use Rattle.cell_values.specs.declared.datum.CompareOp.{CompareOp}
use Rattle.cell_values.specs.declared.datum.CompareOp.TheVariants as compare
use Rattle.schema_grammar.specs.declared.kinds.TypeKind.TheVariants.{UnknownName, WrongType, WrongCount}
use Rattle.check_rules.specs.Term.{Term, create, number, text, truth, null, missing, reference, version, call, schema}
use Rattle.check_rules.specs.Term.{star, renamed, opposite, negative, binary, group, Terms, no_terms, and_term}
use Rattle.check_rules.specs.BinaryOp.{BinaryOp}
use Rattle.check_rules.specs.BinaryOp.TheVariants.{Or, And, Equal, Differs, Less, AtMost, More, AtLeast, Add, Sub, Mul, Div, Rem}
use Rattle.expr_nulls.specs.Expr.{Expr, literal, attribute_value, dimension_value, minus, denial, calculation, relation, conjunction}
use Rattle.expr_nulls.specs.Expr.{disjunction, conditional, null_test, byte_length, decimal_text, coded_null, null_code}
use Rattle.expr_nulls.specs.Typing.{same_kind}
use Rattle.expr_nulls.specs.declared.expr.ArithOp.{ArithOp}
use Rattle.expr_nulls.specs.declared.expr.ArithOp.TheVariants as arith
use Rattle.check_rules.specs.Checked.{Checked, refused, demand, then}
use Rattle.check_rules.specs.Operators.{operator_named, form_named, name_span}
use Rattle.check_rules.specs.declared.rules.operator.Operator.{Operator}
use Rattle.check_rules.specs.declared.rules.operator.Form.{Form}
use Rattle.check_rules.specs.declared.rules.operator.Form.TheVariants.{Iif, One}
use Rattle.check_rules.specs.declared.rules.operator.OneForm.{OneForm}
use Rattle.check_rules.specs.declared.rules.operator.OneForm.TheVariants.{IsNull, StrLen, ToText, Missing, Reason}
use Rattle.check_exprs.specs.declared.operand.Operand.{Operand}

-- a typed expression, the place that it was read from, and its kind, or none where it is of every kind
abbrev pub operand : Span → Expr → Option Kind → Operand
operand span expr kind = record { span = span; expr = expr; kind = kind }

-- Kinds

-- an operand may stand where this kind is wanted
abbrev pub fits : Kind → Option Kind → Bool
fits k None = true
fits k (Some j) = same_kind j k

-- an operand may stand behind the other, where both are to be of one kind
abbrev pub fits_beside : Option Kind → Option Kind → Bool
fits_beside None b = true
fits_beside (Some k) b = fits k b

-- numbers and texts have an order
abbrev pub is_ordered : Option Kind → Bool
is_ordered (Some Truths) = false
is_ordered kind = true

abbrev pub is_text : Option Kind → Bool
is_text (Some Str) = true
is_text kind = false

-- `+` joins texts where an operand is one, else it adds
abbrev pub kind_if : Bool → Kind
kind_if true = Str
kind_if false = Int64

abbrev pub sum_kind : Option Kind → Option Kind → Kind
sum_kind a b = kind_if (is_text a || is_text b)

-- the kind of two that are of one
abbrev pub common_kind : Option Kind → Option Kind → Option Kind
common_kind None b = b
common_kind (Some k) b = Some k

-- Names

abbrev pub attribute_place : List Attribute → List ℕ → Option ℕ
attribute_place attributes name = position (λ attribute. bytes_eq attribute.name name) attributes

abbrev pub dimension_place : List Dimension → List ℕ → Option ℕ
dimension_place dimensions name = position (λ dimension. bytes_eq dimension.name name) dimensions

abbrev pub kind_at : List Attribute → ℕ → Option Kind
kind_at attributes place = option_map (λ attribute. attribute.kind) (slice_get attributes place)

abbrev pub by_place : Span → List Attribute → Option ℕ → Option ℕ → Checked Operand
by_place s attributes (Some place) dimension = Ok (operand s (attribute_value place) (kind_at attributes place))
by_place s attributes None (Some place) = Ok (operand s (dimension_value place) (Some Int64))
by_place s attributes None None = refused s UnknownName

-- what a name stands for
abbrev pub named : List Attribute → List Dimension → Span → List ℕ → Checked Operand
named attributes dimensions s name = by_place s attributes (attribute_place attributes name) (dimension_place dimensions name)

-- Operators over operands, and the place of the whole

abbrev pub negated : Span → Operand → Checked Operand
negated s a = demand (fits Int64 a.kind) a.span WrongType (Ok (operand s (minus a.expr) (Some Int64)))

abbrev pub denied : Span → Operand → Checked Operand
denied s a = demand (fits Truths a.kind) a.span WrongType (Ok (operand s (denial a.expr) (Some Truths)))

-- an operator on two of this kind
abbrev pub calculated : Span → ArithOp → Kind → Operand → Operand → Checked Operand
calculated s op k a b =
    demand (fits k a.kind) a.span WrongType
    (demand (fits k b.kind) b.span WrongType
    (Ok (operand s (calculation op a.expr b.expr) (Some k))))

-- `=` and `<>` compare two of one kind
abbrev pub equated : Span → CompareOp → Operand → Operand → Checked Operand
equated s op a b =
    demand (fits_beside a.kind b.kind) b.span WrongType
    (Ok (operand s (relation op a.expr b.expr) (Some Truths)))

-- the others compare two numbers or two texts
abbrev pub ranked : Span → CompareOp → Operand → Operand → Checked Operand
ranked s op a b =
    demand (is_ordered a.kind) a.span WrongType
    (demand (is_ordered b.kind && fits_beside a.kind b.kind) b.span WrongType
    (Ok (operand s (relation op a.expr b.expr) (Some Truths))))

abbrev pub conjoined : Span → Operand → Operand → Checked Operand
conjoined s a b =
    demand (fits Truths a.kind) a.span WrongType
    (demand (fits Truths b.kind) b.span WrongType
    (Ok (operand s (conjunction a.expr b.expr) (Some Truths))))

abbrev pub disjoined : Span → Operand → Operand → Checked Operand
disjoined s a b =
    demand (fits Truths a.kind) a.span WrongType
    (demand (fits Truths b.kind) b.span WrongType
    (Ok (operand s (disjunction a.expr b.expr) (Some Truths))))

abbrev pub combined : Span → BinaryOp → Operand → Operand → Checked Operand
combined s Or a b = disjoined s a b
combined s And a b = conjoined s a b
combined s Equal a b = equated s compare.Equal a b
combined s Differs a b = equated s compare.Differs a b
combined s Less a b = ranked s compare.Less a b
combined s AtMost a b = ranked s compare.AtMost a b
combined s More a b = ranked s compare.More a b
combined s AtLeast a b = ranked s compare.AtLeast a b
combined s Add a b = calculated s arith.Add (sum_kind a.kind b.kind) a b
combined s Sub a b = calculated s arith.Sub Int64 a b
combined s Mul a b = calculated s arith.Mul Int64 a b
combined s Div a b = calculated s arith.Div Int64 a b
combined s Rem a b = calculated s arith.Rem Int64 a b

-- Functions

abbrev pub chosen : Span → Operand → Operand → Operand → Checked Operand
chosen s test a b =
    demand (fits Truths test.kind) test.span WrongType
    (demand (fits_beside a.kind b.kind) b.span WrongType
    (Ok (operand s (conditional test.expr a.expr b.expr) (common_kind a.kind b.kind))))

abbrev pub applied : Span → OneForm → Operand → Checked Operand
applied s IsNull a = Ok (operand s (null_test a.expr) (Some Truths))
applied s StrLen a = demand (fits Str a.kind) a.span WrongType (Ok (operand s (byte_length a.expr) (Some Int64)))
applied s ToText a = demand (fits Int64 a.kind) a.span WrongType (Ok (operand s (decimal_text a.expr) (Some Str)))
applied s Missing a = demand (fits Int64 a.kind) a.span WrongType (Ok (operand s (coded_null a.expr) None))
applied s Reason a = Ok (operand s (null_code a.expr) (Some Int64))

abbrev pub bracketed : Span → Operand → Operand
bracketed s a = operand s a.expr a.kind

-- The table of expressions. A call is tested for its name and for its number of operands before its operands are checked.
module _ (attributes : List Attribute) (dimensions : List Dimension) where
  abbrev mutual
    pub typed : Term → Checked Operand
    typed (number s n) = Ok (operand s (literal (datum.Int n)) (Some Int64))
    typed (text s x) = Ok (operand s (literal (datum.Text x)) (Some Str))
    typed (truth s b) = Ok (operand s (literal (datum.Truth b)) (Some Truths))
    typed (null s) = Ok (operand s (literal datum.Null) None)
    typed (missing s c) = Ok (operand s (literal (datum.Missing c)) None)
    typed (reference s name) = named attributes dimensions s name
    typed (negative s a) = then (typed a) (negated s)
    typed (opposite s a) = then (typed a) (denied s)
    typed (binary s op a b) = then (typed a) (λ x. then (typed b) (combined s op x))
    typed (group s a) = then (typed a) (λ x. Ok (bracketed s x))
    typed (call s name operands) = typed_call s name (operator_named name) (form_named name) operands
    typed (version s name n) = refused s WrongType
    typed (schema s written) = refused s WrongType
    typed (star s) = refused s WrongType
    typed (renamed s a name) = refused s WrongType
    typed (create s name written) = refused s WrongType

    pub typed_call : Span → List ℕ → Option Operator → Option Form → Terms → Checked Operand
    typed_call s name (Some operator) form operands = refused s WrongType
    typed_call s name None None operands = refused (name_span s name) UnknownName
    typed_call s name None (Some Iif) (and_term test (and_term a (and_term b no_terms))) =
        then (typed test) (λ x. then (typed a) (λ y. then (typed b) (chosen s x y)))
    typed_call s name None (Some (One form)) (and_term a no_terms) = then (typed a) (applied s form)
    typed_call s name None (Some form) operands = refused s WrongCount
