-- Sorts of arguments.
use Rattle.std.specs.Prelude.{ℤ, pos, neg_ℤ, Bool, true, false, is_some, if◌then◌else◌, Option, Some, None, Ok, List, [], ◌∷◌}
use Rattle.cell_values.specs.declared.name.Span.{Span}
use Rattle.cell_values.specs.Table.{fits_int64}
use Rattle.afl_trees.specs.SchemaText.{SchemaText}
use Rattle.afl_trees.specs.TypeKind.TheVariants.{WrongType}
use Rattle.afl_trees.specs.Term.{Term, create, number, null, reference, schema, star, renamed, negative, Terms, no_terms, and_term}
use Rattle.afl_trees.specs.Grammar.{span_of}
use Rattle.check_rules.specs.Checked.{Checked, refused}

abbrev pub written_schema : Term → Checked SchemaText
written_schema (schema s written) = Ok written
written_schema t = refused (span_of t) WrongType

-- An expression is each tree but a schema, `*` and an argument with `as`; a text is one too.
abbrev pub is_expression : Term → Bool
is_expression (schema s written) = false
is_expression (star s) = false
is_expression (renamed s a name) = false
is_expression (create s name written) = false
is_expression t = true

-- a bare name
abbrev pub is_name : Term → Bool
is_name (reference s name) = true
is_name t = false

-- the opposite number, where it has 64 bits
abbrev pub opposite_number : ℤ → Option ℤ
opposite_number n = if fits_int64 (neg_ℤ n) then Some (neg_ℤ n) else None

-- a number with or without one prefix `-`
abbrev pub number_in : Term → Option ℤ
number_in (number s n) = Some n
number_in (negative s (number t n)) = opposite_number n
number_in t = None

abbrev pub is_number : Term → Bool
is_number t = is_some (number_in t)

-- a bound: a number, or `null` for the dimension's own one
abbrev pub bound_in : ℤ → Term → Option ℤ
bound_in own (null s) = Some own
bound_in own t = number_in t

abbrev pub is_bound : Term → Bool
is_bound t = is_some (bound_in (pos 0) t)

-- the place of the first argument that is not of the sort
abbrev pub first_but : (Term → Bool) → List Term → Option Span
first_but sort [] = None
first_but sort (t ∷ ts) = if sort t then first_but sort ts else Some (span_of t)

-- of the first one in pairs of two sorts
abbrev pub first_but_pairs : (Term → Bool) → (Term → Bool) → List Term → Option Span
first_but_pairs sort other (x ∷ y ∷ ts) =
    if sort x then (if other y then first_but_pairs sort other ts else Some (span_of y)) else Some (span_of x)
first_but_pairs sort other ts = None

-- an argument of another sort comes before the rules behind
abbrev pub unless_other : {A : Type 0} → Option Span → Checked A → Checked A
unless_other (Some s) next = refused s WrongType
unless_other None next = next

-- the arguments as a list
abbrev pub to_list : Terms → List Term
to_list no_terms = []
to_list (and_term t ts) = t ∷ to_list ts
