-- `cumulate`: one aggregate at least, and then at most one name, of a dimension that is there. Without a name the cells are aggregated along the
-- first dimension.
use Rattle.std.specs.Prelude.{ℕ, nat_le, length, Option, Some, Ok, List, [], ◌∷◌}
use Rattle.cell_values.specs.declared.name.Span.{Span}
use Rattle.cell_values.specs.declared.schema.Dimension.{Dimension}
use Rattle.cell_values.specs.declared.schema.Schema.{Schema}
use Rattle.cell_values.specs.Schemas.{dimension_names}
use Rattle.schema_grammar.specs.declared.kinds.TypeKind.TheVariants.{WrongCount}
use Rattle.afl_trees.specs.Term.{Term}
use Rattle.afl_trees.specs.Grammar.{span_of}
use Rattle.check_rules.specs.Checked.{Checked, demand, then}
use Rattle.check_rules.specs.Sorts.{is_name, first_but, unless_other}
use Rattle.check_groups.specs.AggregateSort.{is_aggregate, front, behind}
use Rattle.check_groups.specs.Aggregates.{aggregates_of}
use Rattle.check_groups.specs.Names.{dimension_one}
use Rattle.check_groups.specs.declared.groups.cumulate.Cumulation.{Cumulation}

-- only the last argument may be a name
abbrev pub first_but_last_name : List Term → Option Span
first_but_last_name (t ∷ u ∷ ts) = Some (span_of t)
first_but_last_name ts = first_but is_name ts

abbrev pub along : List Dimension → List Term → Checked ℕ
along dimensions [] = Ok 0
along dimensions (name ∷ names) = dimension_one dimensions [] name

abbrev pub along_line : Span → Schema → List Term → ℕ → Checked Cumulation
along_line s source aggregates dimension =
    then (aggregates_of s source.attributes (dimension_names source.dimensions) aggregates) (λ gs. Ok (record { aggregates = gs; dimension = dimension }))

abbrev pub cumulate_of : Span → Schema → List Term → List Term → Checked Cumulation
cumulate_of s source aggregates names =
    unless_other (first_but_last_name names)
    (demand (nat_le 1 (length aggregates)) s WrongCount
    (then (along source.dimensions names) (along_line s source aggregates)))

abbrev pub cumulate_parts : Span → Schema → List Term → Checked Cumulation
cumulate_parts s source arguments = cumulate_of s source (front is_aggregate arguments) (behind is_aggregate arguments)
