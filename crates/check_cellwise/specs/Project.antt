-- `project` of a source and names of its attributes, each of which is there and named once.
use Rattle.std.specs.Prelude.{ℕ, nat_le, length, List, []}
use Rattle.cell_values.specs.declared.name.Span.{Span}
use Rattle.cell_values.specs.declared.schema.Attribute.{Attribute}
use Rattle.schema_grammar.specs.declared.kinds.TypeKind.TheVariants.{WrongType, WrongCount}
use Rattle.afl_trees.specs.Term.{Term, reference}
use Rattle.afl_trees.specs.Grammar.{span_of}
use Rattle.logical_plan.specs.PlanSchema.{schema_of}
use Rattle.logical_plan.specs.Query.{Query, projected}
use Rattle.check_rules.specs.Checked.{Checked, refused, demand, then}
use Rattle.check_exprs.specs.Expressions.{attribute_place}
use Rattle.check_rules.specs.InTurn.{in_turn, new_place}
use Rattle.check_rules.specs.NewSchema.{of_new_schema}
use Rattle.check_rules.specs.Sorts.{is_name, first_but, unless_other}

-- the place of the attribute of this name
abbrev pub projected_one : List Attribute → List ℕ → Term → Checked ℕ
projected_one attributes done (reference s name) = new_place s done (attribute_place attributes name)
projected_one attributes done t = refused (span_of t) WrongType

abbrev pub project_named : Span → Query → List Term → Checked Query
project_named s source names =
    unless_other (first_but is_name names)
    (then (in_turn (projected_one (schema_of source).attributes) [] names) (λ places. of_new_schema s (projected source places)))

-- there is a name at least
abbrev pub project_call : Span → Query → List Term → Checked Query
project_call s source arguments = demand (nat_le 1 (length arguments)) s WrongCount (project_named s source arguments)
