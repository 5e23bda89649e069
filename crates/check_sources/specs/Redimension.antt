-- `redimension`: a schema and any number of aggregates. The schema's own rules come first, then that on its dimensions, the aggregates
-- one by one, and that on its attributes. What the dimensions or attributes break is told at the schema.
use Rattle.std.specs.Prelude.{Option, Some, None, Ok, List, [], ◌∷◌}
use Rattle.cell_values.specs.declared.name.Span.{Span}
use Rattle.cell_values.specs.declared.schema.Schema.{Schema}
use Rattle.cell_values.specs.Schemas.{dimension_names}
use Rattle.schema_grammar.specs.declared.kinds.TypeKind.{TypeKind}
use Rattle.schema_grammar.specs.declared.kinds.TypeKind.TheVariants.{UnknownName, WrongCount}
use Rattle.afl_trees.specs.Term.{Term}
use Rattle.afl_trees.specs.Grammar.{span_of}
use Rattle.logical_plan.specs.Typing.{synthetic_count}
use Rattle.logical_plan.specs.declared.parts.Aggregate.{Aggregate}
use Rattle.check_rules.specs.Checked.{Checked, refused, demand, then}
use Rattle.check_rules.specs.Sorts.{first_but, unless_other, written_schema}
use Rattle.check_groups.specs.AggregateSort.{is_aggregate}
use Rattle.check_groups.specs.Aggregates.{aggregates_of}
use Rattle.check_sources.specs.Build.{meant}
use Rattle.check_sources.specs.Targets.{attributes_fault, may_count}
use Rattle.check_sources.specs.declared.redimension.redimension.Redimensioned.{Redimensioned}

abbrev pub unless_broken : {A : Type 0} → Span → Option TypeKind → Checked A → Checked A
unless_broken s (Some kind) next = refused s kind
unless_broken s None next = next

-- a target, written at a place, with its aggregates
abbrev pub with_aggregates : Span → Schema → Schema → List Aggregate → Checked Redimensioned
with_aggregates at source target gs = unless_broken at (attributes_fault source target gs) (Ok (record { schema = target; aggregates = gs }))

-- a target, written at a place, and the arguments that are its aggregates
abbrev pub with_target : Span → Span → Schema → List Term → Schema → Checked Redimensioned
with_target s at source arguments target =
    demand (may_count (synthetic_count source target) arguments) at UnknownName
    (then (aggregates_of s source.attributes (dimension_names target.dimensions) arguments) (with_aggregates at source target))

abbrev pub redimension_of : Span → Schema → Term → List Term → Checked Redimensioned
redimension_of s source shape arguments =
    then (written_schema shape) (λ written.
    unless_other (first_but is_aggregate arguments)
    (then (meant written) (with_target s (span_of shape) source arguments)))

abbrev pub redimension_parts : Span → Schema → List Term → Checked Redimensioned
redimension_parts s source (shape ∷ arguments) = redimension_of s source shape arguments
redimension_parts s source [] = refused s WrongCount
