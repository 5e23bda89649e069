-- `slice` of a source, and names of its dimensions with a number each. Each is there and named once, and one dimension at least is left.
use Rattle.std.specs.Prelude.{ℕ, ℤ, nat_le, length, Option, Some, None, Ok, List, []}
use Rattle.cell_values.specs.declared.name.Span.{Span}
use Rattle.cell_values.specs.declared.schema.Dimension.{Dimension}
use Rattle.schema_grammar.specs.declared.kinds.TypeKind.TheVariants.{WrongCount, WrongType}
use Rattle.afl_trees.specs.Term.{Term, reference}
use Rattle.afl_trees.specs.Grammar.{span_of}
use Rattle.logical_plan.specs.BoxOps.{fixed_places}
use Rattle.logical_plan.specs.PlanSchema.{schema_of}
use Rattle.logical_plan.specs.Query.{Query, sliced}
use Rattle.logical_plan.specs.declared.parts.Fixed.{Fixed}
use Rattle.check_rules.specs.Checked.{Checked, refused, demand, then}
use Rattle.check_exprs.specs.Expressions.{dimension_place}
use Rattle.check_rules.specs.InTurn.{pairs_in_turn, new_place}
use Rattle.check_rules.specs.NewSchema.{of_new_schema}
use Rattle.check_rules.specs.Sorts.{is_name, is_number, number_in, first_but_pairs, unless_other}

abbrev pub fixed_at : Span → ℕ → Option ℤ → Checked Fixed
fixed_at s place (Some n) = Ok (record { dimension = place; at = n })
fixed_at s place None = refused s WrongType

-- the dimension of this name, and the number at which it is held
abbrev pub fixed_named : List Dimension → List Fixed → Span → List ℕ → Term → Checked Fixed
fixed_named dims done s name n =
    then (new_place s (fixed_places done) (dimension_place dims name)) (λ place. fixed_at (span_of n) place (number_in n))

abbrev pub fixed_one : List Dimension → List Fixed → Term → Term → Checked Fixed
fixed_one dims done (reference s name) n = fixed_named dims done s name n
fixed_one dims done t n = refused (span_of t) WrongType

abbrev pub of_rest : Span → Query → Checked Query
of_rest s query = demand (nat_le 1 (length (schema_of query).dimensions)) s WrongCount (of_new_schema s query)

-- of a source of these dimensions
abbrev pub slice_of : Span → Query → List Dimension → List Term → Checked Query
slice_of s source dims arguments = then (pairs_in_turn (fixed_one dims) [] arguments) (λ fixed. of_rest s (sliced source fixed))

abbrev pub slice_call : Span → Query → List Term → Checked Query
slice_call s source arguments = unless_other (first_but_pairs is_name is_number arguments) (slice_of s source (schema_of source).dimensions arguments)
