-- `apply` of a source, and names with an expression each.
--
-- Pair by pair, the name is new, and the expression over the source is of a kind, which a null alone is not.
use Rattle.std.specs.Prelude.{ℕ, Bool, not, ◌||◌, Option, Some, None, Ok, List, []}
use Rattle.std.specs.List.{list_any}
use Rattle.std.specs.Str.{bytes_eq}
use Rattle.cell_values.specs.declared.name.Span.{Span}
use Rattle.cell_values.specs.declared.schema.Attribute.{Attribute}
use Rattle.cell_values.specs.declared.schema.Dimension.{Dimension}
use Rattle.cell_values.specs.declared.schema.Kind.{Kind}
use Rattle.cell_values.specs.declared.schema.Schema.{Schema}
use Rattle.schema_grammar.specs.declared.kinds.TypeKind.TheVariants.{RepeatedName, WrongType}
use Rattle.afl_trees.specs.Term.{Term, reference}
use Rattle.afl_trees.specs.Grammar.{span_of}
use Rattle.logical_plan.specs.PlanSchema.{schema_of}
use Rattle.logical_plan.specs.Query.{Query, applied}
use Rattle.logical_plan.specs.declared.parts.Applied.{Applied}
use Rattle.check_rules.specs.Checked.{Checked, refused, demand, then}
use Rattle.check_exprs.specs.Expressions.{typed}
use Rattle.check_exprs.specs.declared.operand.Operand.{Operand}
use Rattle.check_rules.specs.InTurn.{pairs_in_turn}
use Rattle.check_rules.specs.NewSchema.{of_new_schema}
use Rattle.check_rules.specs.Sorts.{is_name, is_expression, first_but_pairs, unless_other}

abbrev pub is_attribute_name : List Attribute → List ℕ → Bool
is_attribute_name attributes name = list_any (λ attribute. bytes_eq attribute.name name) attributes

abbrev pub is_dimension_name : List Dimension → List ℕ → Bool
is_dimension_name dimensions name = list_any (λ dimension. bytes_eq dimension.name name) dimensions

abbrev pub is_applied_name : List Applied → List ℕ → Bool
is_applied_name done name = list_any (λ other. bytes_eq other.name name) done

-- the name is the source's, or one of those before
abbrev pub is_given : Schema → List Applied → List ℕ → Bool
is_given source done name = is_attribute_name source.attributes name || is_dimension_name source.dimensions name || is_applied_name done name

abbrev pub of_kind : List ℕ → Operand → Option Kind → Checked Applied
of_kind name value (Some kind) = Ok (record { name = name; kind = kind; value = value.expr })
of_kind name value None = refused value.span WrongType

abbrev pub named_value : List ℕ → Operand → Checked Applied
named_value name value = of_kind name value value.kind

abbrev pub applied_named : Schema → List Applied → Span → List ℕ → Term → Checked Applied
applied_named source done s name e =
    demand (not (is_given source done name)) s RepeatedName
    (then (typed source.attributes source.dimensions e) (named_value name))

-- a name and the value of an expression
abbrev pub applied_one : Schema → List Applied → Term → Term → Checked Applied
applied_one source done (reference s name) e = applied_named source done s name e
applied_one source done n e = refused (span_of n) WrongType

abbrev pub apply_call : Span → Query → List Term → Checked Query
apply_call s source arguments =
    unless_other (first_but_pairs is_name is_expression arguments)
    (then (pairs_in_turn (applied_one (schema_of source)) [] arguments) (λ values. of_new_schema s (applied source values)))
