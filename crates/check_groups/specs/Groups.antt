-- `aggregate`: one aggregate at least, and then names of dimensions, each of which is there and named once.
use Rattle.std.specs.Prelude.{ℕ, nat_le, length, Ok, List, []}
use Rattle.cell_values.specs.declared.name.Span.{Span}
use Rattle.cell_values.specs.declared.schema.Schema.{Schema}
use Rattle.cell_values.specs.Schemas.{dimension_names}
use Rattle.schema_grammar.specs.declared.kinds.TypeKind.TheVariants.{WrongCount}
use Rattle.afl_trees.specs.Term.{Term}
use Rattle.logical_plan.specs.PlanSchema.{group_dimensions}
use Rattle.check_rules.specs.Checked.{Checked, demand, then}
use Rattle.check_rules.specs.InTurn.{in_turn}
use Rattle.check_rules.specs.Sorts.{is_name, first_but, unless_other}
use Rattle.check_groups.specs.AggregateSort.{is_aggregate, front, behind}
use Rattle.check_groups.specs.Aggregates.{aggregates_of}
use Rattle.check_groups.specs.Names.{dimension_one}
use Rattle.check_groups.specs.declared.groups.aggregate.Groups.{Groups}

abbrev pub with_places : Span → Schema → List Term → List ℕ → Checked Groups
with_places s source aggregates places =
    then (aggregates_of s source.attributes (dimension_names (group_dimensions places source.dimensions)) aggregates)
    (λ gs. Ok (record { aggregates = gs; places = places }))

abbrev pub groups_of : Span → Schema → List Term → List Term → Checked Groups
groups_of s source aggregates names =
    unless_other (first_but is_name names)
    (demand (nat_le 1 (length aggregates)) s WrongCount
    (then (in_turn (dimension_one source.dimensions) [] names) (with_places s source aggregates)))

abbrev pub aggregate_parts : Span → Schema → List Term → Checked Groups
aggregate_parts s source arguments = groups_of s source (front is_aggregate arguments) (behind is_aggregate arguments)
